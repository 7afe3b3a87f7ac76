use Rattle.std.proofs.Common.{◌≡◌, ◌++◌, drop, get_or, map}
use Rattle.cs_live.proofs.settling.numbers_by.Given as goal

abbrev pub invariant-loop-n : goal.invariant-loop-n
invariant-loop-n l = map (λ n. get_or l.first n 0) l.numbers ≡ l.moved.items ++ map (λ n. get_or l.first n 0) (drop l.n-index l.numbers)
