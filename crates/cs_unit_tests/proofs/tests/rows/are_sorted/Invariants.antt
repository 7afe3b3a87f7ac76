use Rattle.std.proofs.Common.{◌≡◌, true, is_lt}
use Rattle.std.specs.List.{AllAdjacentBelow}
use Rattle.cs_base.specs.content.Orders.{by_place}
use Rattle.cs_unit_tests.proofs.tests.rows.are_sorted.Given as goal

abbrev pub invariant-loop-i : goal.invariant-loop-i
invariant-loop-i l = AllAdjacentBelow (λ p q. is_lt (by_place p q) ≡ true) l.posts.posts l.i
