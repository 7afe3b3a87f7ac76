use Rattle.std.proofs.Common.{◌≡◌, ◌-◌, ◌++◌}
use Rattle.std.specs.Prelude.{map, take, drop}
use Rattle.cs_base.proofs.outside.failing.count_call.Given as goal

abbrev pub invariant-loop-number : goal.invariant-loop-number
invariant-loop-number l = l.number-items ≡ map (λ k. k - 1) (take l.number-index l.fn.calls.items) ++ drop l.number-index l.fn.calls.items
