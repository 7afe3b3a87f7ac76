use Rattle.std.proofs.Common.{◌≡◌, ◌++◌, map, take, drop, slice_index}
use Rattle.cs_vocab.proofs.numbered.look_up.Given as goal

abbrev pub invariant-loop-i : goal.invariant-loop-i
invariant-loop-i l = l.indices ≡ map (slice_index l.numbers) (take l.i l.initial.indices) ++ drop l.i l.initial.indices
