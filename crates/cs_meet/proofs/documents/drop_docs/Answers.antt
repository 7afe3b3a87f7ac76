use Rattle.std.proofs.Common.{◌≡◌, ◌∙◌, arith, not, get_or, ap}
use Rattle.std.specs.List.{list_any}
use Rattle.std.proofs.lemmas.List.{get_or_default}
use Rattle.cs_base.specs.declared.content.doc.Scored.{Scored}
use Rattle.cs_meet.specs.Filters.{is_of}
use Rattle.cs_base.specs.content.Orders.{by_doc}
use Rattle.cs_meet.proofs.Passes.{filter_more, filter_sorted}
use Rattle.cs_meet.proofs.Listed.{listed_more, scored_rises}
use Rattle.cs_meet.proofs.Ascent.{docs_dont_fall, doc_has_row}
use Rattle.cs_meet.proofs.documents.drop_docs.Goals as goal

abbrev blank : Scored
blank = record { doc = 0; score = 0 }

pub skip_docs-i-requires-clause-sorted : goal.skip_docs-i-requires-clause-sorted
skip_docs-i-requires-clause-sorted c = rw c.docs-docs.ensures (docs_dont_fall c.args.rows.now.posts c.requires.rows_sorted)

pub is_listed-requires-clause-sorted : goal.is_listed-requires-clause-sorted
is_listed-requires-clause-sorted c = rw c.docs-docs.ensures (docs_dont_fall c.args.rows.now.posts c.requires.rows_sorted)

pub loop-scored-preserved : goal.loop-scored-preserved
loop-scored-preserved c =
    let base = c.args.base.now in
    let rows = c.args.rows.now.posts in
    let j = c.loop-scored.scored-index in
    let h = get_or base j blank in
    let is : h ≡ get_or base j h = get_or_default base j blank h c.loop-scored-test.true in
    record {
      told = rw c.keep_where.ensures.items
          (filter_more (λ x. not (list_any (is_of x) rows)) _ c.loop-scored.kept.items base j h (not c.is_listed.result)
          c.loop-scored.invariant.told c.loop-scored-test.true is (ap not (c.is_listed.ensures ∙ rw c.docs-docs.ensures (doc_has_row h rows))));
      ahead = listed_more by_doc (λ x. x.doc) scored_rises c.docs-docs.result.now base c.skip_docs-i.result j h
          c.requires.base_sorted c.loop-scored-test.true is c.skip_docs-i.ensures;
      few = omega arith;
      room = omega arith;
    }

pub returns-clause-sorted : goal.returns-clause-sorted
returns-clause-sorted c =
    let rows = c.args.rows.now.posts in
    rw c.from_vec.ensures
    (filter_sorted by_doc (λ h. not (list_any (is_of h) rows)) c.loop-scored.kept.items c.args.base.now c.loop-scored.scored-index
    c.requires.base_sorted c.loop-scored.invariant.told (omega arith))
