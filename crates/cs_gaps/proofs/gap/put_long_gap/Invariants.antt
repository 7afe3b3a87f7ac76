use Rattle.cs_gaps.proofs.PassLemmas.{HasPut}
use Rattle.cs_gaps.proofs.gap.put_long_gap.Given as goal

abbrev pub invariant-loop-left : goal.invariant-loop-left
invariant-loop-left l = HasPut l.n l.text l.len l.left

abbrev pub decreases-loop-left : goal.decreases-loop-left
decreases-loop-left l = l.left
