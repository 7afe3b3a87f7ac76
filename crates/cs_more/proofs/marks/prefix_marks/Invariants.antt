use Rattle.std.proofs.Common.{◌≡◌, ◌++◌, map, drop}
use Rattle.cs_model.specs.Answers.{begins}
use Rattle.cs_more.proofs.marks.prefix_marks.Given as goal

abbrev pub invariant-loop-word : goal.invariant-loop-word
invariant-loop-word l = map (begins l.prefix) l.words ≡ l.marks.items ++ map (begins l.prefix) (drop l.word-index l.words)
