use Rattle.std.proofs.Common.{length, ◌-◌}
use Rattle.cs_rank.specs.DocScores.{PassedBelow}
use Rattle.cs_rank.proofs.scores.skip_below.Given as goal

abbrev pub invariant-loop-i : goal.invariant-loop-i
invariant-loop-i l = PassedBelow l.listed l.i l.doc

abbrev pub decreases-loop-i : goal.decreases-loop-i
decreases-loop-i l = length l.listed - l.i
