use Rattle.std.proofs.Common.{◌≡◌, ◌++◌, take}
use Rattle.std.specs.Prelude.{map}
use Rattle.std.specs.List.{range_with_len}
use Rattle.cs_trial.proofs.typing.type_word.Given as goal

abbrev pub invariant-loop-letter : goal.invariant-loop-letter
invariant-loop-letter l = record {
  text : l.text ≡ l.fn.before ++ take l.letter-index l.word;
  texts : l.texts ≡ l.initial.texts ++ map (λ c. l.fn.before ++ take c l.word) (range_with_len 1 l.letter-index);
}
