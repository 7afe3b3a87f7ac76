use Rattle.std.proofs.Common.{◌≤◌, arith}
use Rattle.cs_text.proofs.DigitLemmas.{tens, tens_small}
use Rattle.cs_text.proofs.number.number_of.Goals as goal

pub overflow_mul-number : goal.overflow_mul-number
overflow_mul-number c = let small : tens c.loop-byte.byte-index ≤ 1000000 = tens_small c.loop-byte.byte-index (omega arith) in omega arith
