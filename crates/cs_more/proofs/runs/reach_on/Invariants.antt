use Rattle.std.proofs.Common.{◌≡◌, ◌+◌, ◌++◌, map, take, drop}
use Rattle.cs_more.specs.RunSearch.{reach}
use Rattle.cs_more.proofs.runs.reach_on.Given as goal

abbrev pub invariant-loop-i : goal.invariant-loop-i
invariant-loop-i l = l.reached.items ≡ map (λ m. reach m (l.place + 1)) (take l.i l.parts) ++ map (λ m. reach m l.place) (drop l.i l.parts)
