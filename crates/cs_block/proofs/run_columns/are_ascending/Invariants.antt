use Rattle.std.proofs.Common.{◌≡◌, ℕ, suc, ◌<◌, true}
use Rattle.std.specs.Ordering.{is_lt}
use Rattle.cs_base.specs.content.Orders.{by_place}
use Rattle.cs_block.specs.RowRuns.{unscored}
use Rattle.cs_block.proofs.run_columns.are_ascending.Given as goal

abbrev pub invariant-loop-i : goal.invariant-loop-i
invariant-loop-i l = l.holds ≡ true → (j : ℕ) → suc j < l.i
    → is_lt (by_place (unscored l.docs l.words l.positions j) (unscored l.docs l.words l.positions (suc j))) ≡ true
