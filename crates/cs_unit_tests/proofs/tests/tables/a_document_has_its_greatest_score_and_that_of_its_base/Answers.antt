use Rattle.std.proofs.Common.{sym, subst}
use Rattle.cs_base.specs.content.Orders.{AreSorted}
use Rattle.cs_base.specs.declared.content.doc.Base.TheVariants.{Listed}
use Rattle.cs_rank.specs.DocScores.{IsBase}
use Rattle.cs_unit_tests.proofs.Samples.{sample-sorted, sample_base-is_base}
use Rattle.cs_unit_tests.proofs.tests.tables.a_document_has_its_greatest_score_and_that_of_its_base.Goals as goal

pub score-requires-clause-base : goal.score-requires-clause-base
score-requires-clause-base g c = subst (λ s. IsBase (Listed s)) (sym c.in_ok-base.ensures) sample_base-is_base

pub score-requires-clause-rows_sorted : goal.score-requires-clause-rows_sorted
score-requires-clause-rows_sorted g c = subst (AreSorted) (sym c.in_ok-rows.ensures) sample-sorted
