use Rattle.std.proofs.Common.{◌<◌, ap, drop, map, length, refl, sym, subst, ◌∙◌, arith, length-take}
use Rattle.std.specs.Prelude.{All}
use Rattle.std.proofs.lemmas.List.{length-map}
use Rattle.cs_base.specs.content.Members.{members_in}
use Rattle.cs_base.specs.content.Orders.{by_rank}
use Rattle.cs_base.specs.declared.content.doc.Scored.{Scored}
use Rattle.cs_model.specs.Replies.{HitShown}
use Rattle.cs_model.specs.Requests.{hit_shown}
use Rattle.cs_query.specs.RequestView.{asked}
use Rattle.cs_tables.specs.declared.tables.Completion.{Completion}
use Rattle.cs_rows.specs.Stocked.{base_hits, corpus_in, present_docs, shown_at}
use Rattle.cs_engine.proofs.AnsweringLemmas.{hits_few, reply_told, shown_in, words_as_shown}
use Rattle.cs_engine.proofs.TitlesRead.{err_reads, filed_few, filed_shown}
use Rattle.cs_rows.proofs.WalkLemmas.{within_both}
use Rattle.cs_engine.proofs.show.show.Goals as goal

pub shown_words-requires-clause-texts : goal.shown_words-requires-clause-texts
shown_words-requires-clause-texts g c = c.requires.opened.source.texts

pub shown_words-requires-clause-known : goal.shown_words-requires-clause-known
shown_words-requires-clause-known g c = subst (All (λ (w : Completion). w.word < length (g.I.Source.view c.args.over.index.now).words))
    (sym c.as_slice.ensures) c.requires.table

pub shown_hits-requires-clause-known : goal.shown_hits-requires-clause-known
shown_hits-requires-clause-known g c =
    let v = (g.I.Source.view c.args.over.index.now) in
    let r = c.args.over.request.now in
    let shown = shown_in v c.requires.opened.source _ c.args.hits.now _ r.offset r.hits refl c.requires.base c.in_ok-first.first
    c.in_ok-first.ensures.first in
    subst (All (λ (h : Scored). h.doc < v.docs)) (sym c.as_slice-2.ensures) shown

pub overflow_cast-result : goal.overflow_cast-result
overflow_cast-result g c =
    let few = hits_few (g.I.Source.view c.args.over.index.now) c.requires.opened.source _ c.args.hits.now _ refl c.requires.base in
    omega (arith, c.in_ok-first.ensures.total, few)

pub returns-clause-told : goal.returns-clause-told
returns-clause-told g c b is stands over found =
    let v = (g.I.Source.view c.args.over.index.now) in
    let r = asked c.args.over.request.now in
    let posts = found.posts in
    let shown = words_as_shown b v stands c.requires.opened.source posts found.within _ refl r.completions c.args.table.now.first found.first
    c.in_ok-shown.shown
    (c.in_ok-shown.ensures ∙ ap (map (shown_at _)) c.as_slice.ensures) in
    let hits = c.in_ok-shown_first.ensures.told b (c.shown_facets.ensures.store.bytes ∙ is) stands
    ∙ ap (map (hit_shown (corpus_in (v.stock b)))) (c.as_slice-2.ensures ∙ c.in_ok-first.ensures.first) in
    reply_told b v stands c.requires.opened.source r c.args.hits.now posts found.found found.within c.in_ok-shown.shown c.in_ok-facets.facets
    c.in_ok-shown_first.shown_first c.args.table.now.total c.in_ok-first.total _
    shown (c.in_ok-facets.ensures.told b is stands over) hits found.total c.in_ok-first.ensures.total refl

-- ---- what is read
pub returns-in_err-shown_first-clause-reads : goal.returns-in_err-shown_first-clause-reads
returns-in_err-shown_first-clause-reads g c =
    let v = g.I.Source.view c.args.over.index.now in
    let r = asked c.args.over.request.now in
    let told = err_reads v.index.docs r c.from_residual-in_err-shown_first.result c.from_residual-in_err-shown_first.ensures.0 in
    let first = c.as_slice-2.ensures ∙ c.in_ok-first.ensures.first in
    let filed = filed_few v.index.docs c.as_slice-2.result.now in
    let few = length-take r.hits (drop r.offset (members_in by_rank (base_hits (present_docs v.present) c.args.hits.now))) in
    within_both c.shown_facets.ensures.reads c.in_err-shown_first.ensures.reads (omega (arith, told, filed, ap length first, few))

pub returns-clause-few : goal.returns-clause-few
returns-clause-few g c =
    let shown = sym (length-map c.in_ok-shown_first.shown_first (λ (s : HitShown). s.doc)) ∙ ap length c.in_ok-shown_first.ensures.docs
    ∙ length-map _ (λ (h : Scored). h.doc) ∙ ap length (c.as_slice-2.ensures ∙ c.in_ok-first.ensures.first) in
    let few = length-take c.args.over.request.now.hits (drop c.args.over.request.now.offset (members_in by_rank (base_hits (present_docs (g.I.Source.view c.args.over.index.now).present) c.args.hits.now))) in
    omega (arith, shown, few)

pub returns-clause-reads : goal.returns-clause-reads
returns-clause-reads g c =
    let n = (g.I.Source.view c.args.over.index.now).index.docs in
    let same = filed_shown n c.in_ok-shown_first.shown_first _ c.in_ok-shown_first.ensures.docs in
    within_both c.shown_facets.ensures.reads c.shown_hits.ensures.reads (omega (arith, same))
