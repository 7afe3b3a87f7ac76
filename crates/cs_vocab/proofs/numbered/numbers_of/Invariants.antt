use Rattle.std.proofs.Common.{take}
use Rattle.cs_vocab.specs.Ranges.{AreNumbers}
use Rattle.cs_vocab.proofs.numbered.numbers_of.Given as goal

abbrev pub invariant-loop-i : goal.invariant-loop-i
invariant-loop-i l = AreNumbers l.words l.numbers.items (take l.i l.gathered)
