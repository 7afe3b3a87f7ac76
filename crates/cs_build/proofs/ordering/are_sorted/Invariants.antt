use Rattle.std.proofs.Common.{◌≡◌, true, is_lt}
use Rattle.std.specs.List.{AllAdjacentBelow}
use Rattle.cs_base.specs.content.Orders.{by_spot}
use Rattle.cs_build.proofs.ordering.are_sorted.Given as goal

abbrev pub invariant-loop-i : goal.invariant-loop-i
invariant-loop-i l = AllAdjacentBelow (λ r s. is_lt (by_spot r s) ≡ true) l.rows l.i
