use Rattle.std.proofs.Common.{◌≡◌, take, length}
use Rattle.cs_join.specs.Marked.{AreMarksOf}
use Rattle.cs_join.proofs.marks.Marks.of.Given as goal

abbrev pub invariant-loop-word : goal.invariant-loop-word
invariant-loop-word l = record {
  marked : AreMarksOf (take l.word-index l.words) l.least l.marks.items;
  long : length l.marks.items ≡ l.span;
}
