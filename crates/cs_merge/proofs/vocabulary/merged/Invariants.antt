use Rattle.std.proofs.Common.{◌+◌, ◌-◌, length}
use Rattle.cs_merge.specs.Vocabularies.{IsMerging}
use Rattle.cs_merge.proofs.vocabulary.merged.Given as goal

abbrev pub invariant-loop-alloc : goal.invariant-loop-alloc
invariant-loop-alloc l = record { merging : IsMerging l.a l.b l.merging }

abbrev pub decreases-loop-alloc : goal.decreases-loop-alloc
decreases-loop-alloc l = length l.a + length l.b - (length l.merging.first.items + length l.merging.second.items)
