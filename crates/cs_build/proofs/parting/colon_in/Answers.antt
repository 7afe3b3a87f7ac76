use Rattle.std.proofs.Common.{ℕ, ◌==◌, length, sym, arith, rules}
use Rattle.std.proofs.lemmas.List.Sums.{position_or_len_is}
use Rattle.cs_build.proofs.parting.colon_in.Goals as goal

pub returns-in-Some-clause-value : goal.returns-in-Some-clause-value
returns-in-Some-clause-value c = sym (position_or_len_is (λ (b : ℕ). b == 58) c.args.text.now c.in-Some.i 0 (search rules) (search rules) (search rules))

pub returns-in-None-clause-value : goal.returns-in-None-clause-value
returns-in-None-clause-value c = sym (position_or_len_is (λ (b : ℕ). b == 58) c.args.text.now (length c.args.text.now) 0 (omega arith) (search rules) (search rules))
