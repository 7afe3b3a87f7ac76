use Rattle.std.proofs.Common.{◌≡◌, ◌+◌, drop}
use Rattle.std.specs.List.{sum_by}
use Rattle.cs_live.proofs.state.rows_of_heads.Given as goal

abbrev pub invariant-loop-head : goal.invariant-loop-head
invariant-loop-head l = sum_by (λ h. h.rows) l.heads ≡ l.rows + sum_by (λ h. h.rows) (drop l.head-index l.heads)
