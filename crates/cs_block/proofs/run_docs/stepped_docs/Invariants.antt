use Rattle.std.proofs.Common.{◌-◌, length}
use Rattle.cs_block.proofs.RunsLemmas.{DocsUpTo}
use Rattle.cs_block.proofs.run_docs.stepped_docs.Given as goal

abbrev pub invariant-loop-i : goal.invariant-loop-i
invariant-loop-i l = DocsUpTo l.gaps l.at l.before l.docs l.out l.i l.next l.doc

abbrev pub decreases-loop-i : goal.decreases-loop-i
decreases-loop-i l = length l.out - l.i
