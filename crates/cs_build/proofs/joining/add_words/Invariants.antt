use Rattle.std.proofs.Common.{◌≡◌, ◌++◌, get_or, map, take}
use Rattle.cs_build.proofs.joining.add_words.Given as goal

abbrev pub invariant-loop-word : goal.invariant-loop-word
invariant-loop-word l = l.numbers.items ≡ l.fn.numbers.items ++ map (λ n. get_or l.shift n 0) (take l.word-index l.words)
