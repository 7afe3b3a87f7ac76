use Rattle.std.proofs.Common.{◌≡◌, ◌∙◌, ap, arith, length, map, subst, sym}
use Rattle.std.specs.Prelude.{All}
use Rattle.cs_model.specs.Parameters.{HoldsLimits}
use Rattle.cs_query.specs.RequestView.{asked}
use Rattle.cs_base.specs.declared.content.scores.TheConstants.{USUAL_WEIGHTS}
use Rattle.cs_base.specs.declared.content.scores.Weights.{Weights}
use Rattle.cs_file.specs.Indexes.{StandsFor}
use Rattle.cs_model.specs.Collection.{weights}
use Rattle.cs_model.specs.Corpus.{corpus, refusal}
use Rattle.cs_model_index.specs.Sections.{file_corpus}
use Rattle.cs_model_trial.specs.Generator.{collection}
use Rattle.cs_model_trial.specs.Sessions.{queries}
use Rattle.cs_model_trial.specs.Summary.{trial_corpus}
use Rattle.cs_indexing.specs.Filed.{IsFiled, HasSizes}
use Rattle.cs_top.specs.Trial.{AddUp, AreFew, sizes_of}
use Rattle.cs_trial.proofs.TrialCollections.{usual_weights}
use Rattle.cs_top.proofs.TrialLemmas.{asked_none, asked_queries, few_requests, ok_then, summed, told_is}
use Rattle.cs_top.proofs.trial.summary_of.Goals as goal

pub ask_all-requires-clause-few : goal.ask_all-requires-clause-few
ask_all-requires-clause-few c = let few = few_requests c.args.n c.in_ok-requests.requests.items c.in_ok-requests.ensures.asked in omega (arith, few, ap length c.deref-2.ensures.value)

pub imaged-requires : goal.imaged-requires
imaged-requires c = record { accepted = ap refusal (c.deref.ensures.value ∙ c.in_ok-bytes.ensures.bytes) ∙ c.in_ok-bytes.ensures.accepted }

pub ask_all-requires-clause-limits : goal.ask_all-requires-clause-limits
ask_all-requires-clause-limits c = subst (All (λ r. HoldsLimits (asked r))) (sym c.deref-2.ensures.value) c.in_ok-requests.ensures.limits

pub returns : goal.returns
unfolding trial_corpus
returns c =
    let n = c.args.n in
    let i = c.in_ok-image.field-0.image in
    let documents = c.in_ok-image.field-0.documents in
    let rows = c.in_ok-image.field-0.rows in
    let e = c.in_ok-engine in
    let rs = c.in_ok-requests.requests.items in
    let counts = c.ask_all.new.counts in
    let few : AreFew 0 c.sizes-counts.result = subst (AreFew 0) (sym c.sizes-counts.ensures) (record { replies = omega arith; hits = omega arith; same = omega arith; narrow = omega arith; extend = omega arith; fresh = omega arith }) in
    let start = asked_none e.store.bytes e.engine c.sizes-counts.result (subst (λ b. StandsFor b e.engine.index) (sym e.ensures.bytes) e.ensures.stands) (e.ensures.good e.store.bytes) e.ensures.empty.0 e.ensures.empty.1 few in
    let all = (c.in_ok-ask_all.ensures.asked start).counts in
    let queries_are : map (λ r. r.query) c.deref-2.result.now ≡ queries n = ap (map (λ r. r.query)) c.deref-2.ensures.value ∙ asked_queries n rs c.in_ok-requests.ensures.asked in
    let drawn : c.deref.result.now ≡ collection n = c.deref.ensures.value ∙ c.in_ok-bytes.ensures.bytes in
    let scored : IsFiled (trial_corpus n) (weights (collection n)) i = subst (λ b. IsFiled (corpus b) (weights b) i) drawn c.in_ok-image.ensures.ok in
    let filed : IsFiled (trial_corpus n) USUAL_WEIGHTS i = subst (λ (w : Weights). IsFiled (trial_corpus n) w i) (usual_weights n) scored in
    let sized : HasSizes (trial_corpus n) documents rows = subst (λ b. HasSizes (corpus b) documents rows) drawn c.in_ok-image.ensures.sizes in
    let is_corpus : file_corpus e.store.bytes ≡ trial_corpus n = ap file_corpus e.ensures.bytes ∙ filed.corpus in
    let added : AddUp (trial_corpus n) (queries n) counts = subst (λ k. AddUp k (queries n) counts) is_corpus (subst (λ qs. AddUp (file_corpus e.store.bytes) qs counts) queries_are all) in
    let sizes : sizes_of counts ≡ (documents, rows, length i.heads) =
    c.in_ok-ask_all.ensures.sizes ∙ ap sizes_of c.sizes-counts.ensures ∙ ap (λ x. (documents, rows, x)) (c.len.ensures ∙ ap (λ x. length x.heads) c.image.view_is) in
    ok_then c.summary_bytes.result c.summary_bytes.ensures (λ b text. summed n i counts b.items filed.image (told_is n (trial_corpus n) counts documents rows (length i.heads) sizes sized added) text)
