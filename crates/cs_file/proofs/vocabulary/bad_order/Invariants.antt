use Rattle.std.proofs.Common.{◌+◌, ◌*◌, ◌≤◌}
use Rattle.cs_model_index.specs.FileRules.{follows, word_size}
use Rattle.cs_model_index.specs.Sections.{vocabulary_at}
use Rattle.cs_file.proofs.LaidLemmas.{Rest}
use Rattle.cs_file.proofs.vocabulary.bad_order.Given as goal

abbrev pub invariant-loop-i : goal.invariant-loop-i
invariant-loop-i l = record { rest : Rest (λ i. follows i.last i.value) word_size vocabulary_at l.words l.i l.at; small : l.at ≤ 44 + 139 * l.i }
