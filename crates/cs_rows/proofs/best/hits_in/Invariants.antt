use Rattle.std.proofs.Common.{◌≡◌, ◌++◌, ◌-◌, ◌≤◌, drop, length}
use Rattle.cs_rows.specs.BestScores.{hits_in}
use Rattle.cs_rows.proofs.best.hits_in.Given as goal

abbrev pub invariant-loop-from : goal.invariant-loop-from
invariant-loop-from l = record {
  told : l.hits.items ++ hits_in l.from (drop l.from l.best) ≡ hits_in 0 l.best;
  within : l.from ≤ length l.best;
}

abbrev pub decreases-loop-from : goal.decreases-loop-from
decreases-loop-from l = length l.best - l.from
