use Rattle.std.proofs.Common.{take}
use Rattle.cs_file.specs.Parting.{HasMarks}
use Rattle.cs_file.proofs.parts.marks_of.Given as goal

abbrev pub invariant-loop-word : goal.invariant-loop-word
invariant-loop-word l = HasMarks (take l.word-index l.words) l.lo l.count l.marks.items
