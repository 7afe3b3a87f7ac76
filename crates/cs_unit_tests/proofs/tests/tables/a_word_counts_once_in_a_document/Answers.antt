use Rattle.std.proofs.Common.{sym, subst}
use Rattle.cs_base.specs.content.Orders.{AreSorted}
use Rattle.cs_unit_tests.proofs.Samples.{sample-sorted}
use Rattle.cs_unit_tests.proofs.tests.tables.a_word_counts_once_in_a_document.Goals as goal

pub completions-requires-clause-sorted : goal.completions-requires-clause-sorted
completions-requires-clause-sorted g c = subst (AreSorted) (sym c.in_ok-rows.ensures) sample-sorted
