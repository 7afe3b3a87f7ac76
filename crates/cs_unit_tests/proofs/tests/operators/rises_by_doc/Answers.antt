use Rattle.std.proofs.Common.{◌+◌, get_or, arith}
use Rattle.std.proofs.lemmas.Cmp.{on_total, nat_cmp_total}
use Rattle.std.proofs.lemmas.Map.Keys.{sorted_from_all_adjacent}
use Rattle.cs_base.specs.declared.content.doc.Scored.{Scored}
use Rattle.cs_base.proofs.OrdersLemmas.{Less-from_lt}
use Rattle.cs_unit_tests.proofs.tests.operators.rises_by_doc.Goals as goal

abbrev blank : Scored
blank = record { doc = 0; score = 0 }

pub returns : goal.returns
returns c done = sorted_from_all_adjacent (on_total (λ h. h.doc) nat_cmp_total) c.args.base.now blank (λ k h. Less-from_lt (get_or c.args.base.now k blank).doc (get_or c.args.base.now (k + 1) blank).doc (c.loop-j.invariant k blank (omega arith)))
