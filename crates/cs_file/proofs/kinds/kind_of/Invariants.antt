use Rattle.std.proofs.Common.{◌-◌, ◌≤◌, length}
use Rattle.cs_file.proofs.KindsLemmas.{NoColon}
use Rattle.cs_file.proofs.kinds.kind_of.Given as goal

abbrev pub invariant-loop-end : goal.invariant-loop-end
invariant-loop-end l = record { none : NoColon l.word l.end; low : 1 ≤ l.end; within : l.end ≤ length l.word }

abbrev pub decreases-loop-end : goal.decreases-loop-end
decreases-loop-end l = length l.word - l.end
