use Rattle.cs_build.proofs.NumberCounts.{AreCounted}
use Rattle.cs_build.proofs.parting.counts_of.Given as goal

abbrev pub invariant-loop-number : goal.invariant-loop-number
invariant-loop-number l = AreCounted l.words l.numbers l.number-index l.counts.items
