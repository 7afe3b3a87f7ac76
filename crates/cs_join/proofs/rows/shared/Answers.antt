use Rattle.std.proofs.Common.{◌∙◌, map, subst}
use Rattle.std.proofs.lemmas.List.Kept.{IsStrictlySortedBy-filter}
use Rattle.cs_base.specs.content.Orders.{by_place}
use Rattle.cs_join.specs.Marked.{AreMarksOf, has_mark}
use Rattle.cs_join.proofs.SharedLemmas.{shared_by_marks}
use Rattle.cs_join.proofs.rows.shared.Goals as goal

pub returns-clause-ok : goal.returns-clause-ok
returns-clause-ok c =
    let marks = c.in_ok-marks.marks in
    let marked = subst (λ w. AreMarksOf w marks.least marks.marks.items) c.words.ensures c.in_ok-marks.ensures in
    c.in_ok-found.ensures
    ∙ shared_by_marks c.args.inner_hits.now c.args.facet_rows.now.posts marks.least marks.marks.items
    (subst (λ rows. AreMarksOf (map (λ p. p.word) rows) marks.least marks.marks.items) c.in_ok-listed.ensures.ok marked)

pub returns-clause-sorted : goal.returns-clause-sorted
returns-clause-sorted c =
    let marks = c.in_ok-marks.marks in
    rw c.in_ok-found.ensures (IsStrictlySortedBy-filter by_place (has_mark marks.least marks.marks.items) c.args.facet_rows.now.posts c.requires.sorted)
