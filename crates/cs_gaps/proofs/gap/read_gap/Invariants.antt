use Rattle.cs_gaps.proofs.PassLemmas.{HasRead}
use Rattle.cs_gaps.proofs.gap.read_gap.Given as goal

abbrev pub invariant-loop-i : goal.invariant-loop-i
invariant-loop-i l = HasRead l.rest l.n l.weight l.i
