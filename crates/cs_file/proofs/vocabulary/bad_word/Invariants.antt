use Rattle.std.proofs.Common.{◌+◌, ◌*◌, ◌≤◌}
use Rattle.cs_model_index.specs.FileRules.{is_word, word_size}
use Rattle.cs_model_index.specs.Sections.{vocabulary_at}
use Rattle.cs_file.proofs.LaidLemmas.{Rest}
use Rattle.cs_file.proofs.vocabulary.bad_word.Given as goal

abbrev pub invariant-loop-word : goal.invariant-loop-word
invariant-loop-word l = record { rest : Rest (λ i. is_word i.value) word_size vocabulary_at l.words l.word-index l.at; small : l.at ≤ 44 + 139 * l.word-index }
