use Rattle.std.proofs.Common.{[], ◌<◌, ◌*◌, ap, map, length, sym, subst, ◌∙◌}
use Rattle.std.specs.Prelude.{All}
use Rattle.cs_base.specs.content.Orders.{AreDocs}
use Rattle.cs_base.specs.declared.content.doc.Post.{Post}
use Rattle.cs_base.specs.declared.content.doc.Scored.{Scored}
use Rattle.cs_base.specs.declared.content.limits.TheConstants.{MAX_PARTS}
use Rattle.cs_base.specs.declared.content.scores.TheConstants.{MAX_ROW_SCORE}
use Rattle.cs_rows.specs.Stocked.{base_docs, present_docs}
use Rattle.cs_rows.specs.Steps.{IsBaseOf}
use Rattle.cs_engine.proofs.FacetLemmas.{chosen_facet, chosen_kept, facet_counts, known_docs, known_kept}
use Rattle.cs_rows.proofs.FoundLemmas.{docs_rise}
use Rattle.cs_engine.proofs.facets.count_facet.Goals as goal

pub keep_docs-requires-clause-docs_sorted : goal.keep_docs-requires-clause-docs_sorted
keep_docs-requires-clause-docs_sorted c =
    subst AreDocs (sym (c.deref.ensures.value ∙ c.in_ok-docs.ensures ∙ ap (map (λ (h : Scored). h.doc)) c.as_slice.ensures))
    (docs_rise c.in-Listed.hits (subst (IsBaseOf c.requires.index.docs (MAX_ROW_SCORE * MAX_PARTS)) c.in-Listed.is c.requires.base).0)

pub add-requires-clause-known : goal.add-requires-clause-known
add-requires-clause-known c =
    subst (λ ds. All (λ d. d < length c.args.listed.now) ds) (sym (c.docs.ensures ∙ ap (map (λ (p : Post). p.doc)) (c.in_ok-found.ensures.ok)))
    (known_kept c.requires.index c.args.rows.now.posts c.deref.result.now c.requires.within (c.requires.listed.long ∙ c.requires.numbers))

pub returns-then-len-clause-told : goal.returns-then-len-clause-told
returns-then-len-clause-told c all are =
    let posts = c.args.rows.now.posts in
    let lo = c.args.words.0 in
    let hi = c.args.words.1 in
    let i = c.requires.index in
    let rows = c.in_ok-found.found.posts in
    let docs_are = c.deref.ensures.value ∙ c.in_ok-docs.ensures ∙ ap (map (λ (h : Scored). h.doc)) c.as_slice.ensures
    ∙ ap (base_docs (present_docs c.requires.present)) (sym c.in-Listed.is) in
    facet_counts i c.requires.few_docs c.in_ok-counts.ensures.low
    c.in_ok-counts.ensures.high c.args.listed.now posts rows c.requires.within
    (chosen_kept lo hi c.args.listed.now posts all are i c.requires.present c.requires.numbers c.args.base.now c.deref.result.now rows c.requires.listed c.requires.within docs_are
    c.in_ok-found.ensures.ok)
    (λ few. c.add.ensures.counted rows c.docs.ensures c.words.ensures [] few c.in_ok-counts.ensures.none)

pub add-requires-2-clause-known : goal.add-requires-2-clause-known
add-requires-2-clause-known c =
    subst (λ ds. All (λ d. d < length c.args.listed.now) ds) (sym c.docs-2.ensures)
    (known_docs c.requires.index c.args.rows.now.posts c.requires.within (c.requires.listed.long ∙ c.requires.numbers))

pub returns-clause-told : goal.returns-clause-told
returns-clause-told c all are =
    let posts = c.args.rows.now.posts in
    let lo = c.args.words.0 in
    let hi = c.args.words.1 in
    facet_counts c.requires.index c.requires.few_docs c.in_ok-counts.ensures.low
    c.in_ok-counts.ensures.high c.args.listed.now posts posts
    c.requires.within (chosen_facet lo hi c.args.listed.now posts all are)
    (λ few. c.add-2.ensures.counted posts c.docs-2.ensures
    c.words-2.ensures [] few c.in_ok-counts.ensures.none)
