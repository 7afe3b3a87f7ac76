use Rattle.std.proofs.Common.{refl, ap, subst, ◌∙◌}
use Rattle.cs_model_index.specs.BlockRules.{IsBlock}
use Rattle.cs_file.specs.Fetching.{IsFaultOf}
use Rattle.cs_file.proofs.FetchLemmas.{fault_along}
use Rattle.cs_file.proofs.ScoredLemmas.{decoded_scores}
use Rattle.cs_file.proofs.fetching.put_scored.Goals as goal

pub returns-in_err-doc_words_at-clause-exact : goal.returns-in_err-doc_words_at-clause-exact
returns-in_err-doc_words_at-clause-exact c =
    let read = c.args.into.now.bytes.items in
    fault_along (IsFaultOf c.args.placed.now read) _ c.from_residual.result (c.in_err-doc_words_at.ensures.exact read refl) c.from_residual.ensures.1

pub returns-clause-ok : goal.returns-clause-ok
returns-clause-ok c =
    let placed = c.args.placed.now in
    let read = c.args.into.now.bytes.items in
    let rows = c.in_ok-rows.rows.posts in
    let same = c.deref-2.ensures.value ∙ ap (λ v. v.items) c.in_ok-doc_words_at.ensures.bytes in
    let block = subst (IsBlock placed.weights placed.head placed.docs rows) same c.in_ok-rows.ensures.ok in
    record {
      listed = c.in_ok-doc_words_at.ensures.ok read refl;
      scored = decoded_scores placed read rows c.put_all.new.column.items c.requires block (c.in_ok-put_all.ensures ∙ c.scores.ensures);
    }
