use Rattle.std.proofs.Common.{arith}
use Rattle.std.proofs.lemmas.Bool.Decides.{nat_tests}
use Rattle.cs_model.specs.Words.{is_word_char}
use Rattle.cs_text.proofs.character.is_word_char.Goals as goal

pub returns-then-c-lt128 : goal.returns-then-c-lt128
unfolding is_word_char
returns-then-c-lt128 c = grind (arith, nat_tests)

pub returns-else-c-lt128 : goal.returns-else-c-lt128
unfolding is_word_char
returns-else-c-lt128 c = grind (arith, nat_tests)
