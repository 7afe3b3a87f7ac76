use Rattle.std.proofs.Common.{◌≡◌, ◌++◌, map, drop}
use Rattle.std.specs.Str.{bytes_eq}
use Rattle.cs_more.proofs.marks.exact_marks.Given as goal

abbrev pub invariant-loop-word : goal.invariant-loop-word
invariant-loop-word l = map (λ x. bytes_eq x l.exact) l.words ≡ l.marks.items ++ map (λ x. bytes_eq x l.exact) (drop l.word-index l.words)
