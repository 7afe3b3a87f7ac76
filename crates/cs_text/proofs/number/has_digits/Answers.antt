use Rattle.std.proofs.Common.{arith}
use Rattle.std.proofs.lemmas.Grind.{common_steps}
use Rattle.std.proofs.lemmas.Bool.Decides.{nat_tests}
use Rattle.cs_text.proofs.number.has_digits.Goals as goal

pub returns : goal.returns
returns c = grind (arith, nat_tests, common_steps)
