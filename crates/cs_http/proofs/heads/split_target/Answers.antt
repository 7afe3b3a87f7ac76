use Rattle.std.proofs.Common.{ℕ, ◌+◌, ◌==◌, length, take, drop, sym, ap, ◌∙◌, arith, rules}
use Rattle.std.proofs.lemmas.List.Sums.{position_or_len_is}
use Rattle.std.proofs.lemmas.List.{take_rest, drop_all, take_all}
use Rattle.cs_http.proofs.heads.split_target.Goals as goal

pub returns-in-Some-clause-path : goal.returns-in-Some-clause-path
returns-in-Some-clause-path c =
    let input = c.args.target.now in
    ap (λ n. take n input) (sym (position_or_len_is (λ (b : ℕ). b == 63) input c.in-Some.i 0 (search rules) (search rules) (search rules)))

pub returns-in-Some-clause-params : goal.returns-in-Some-clause-params
returns-in-Some-clause-params c =
    let input = c.args.target.now in
    take_rest input _ ∙ ap (λ n. drop (n + 1) input) (sym (position_or_len_is (λ (b : ℕ). b == 63) input c.in-Some.i 0 (search rules) (search rules) (search rules)))

pub returns-in-None-clause-path : goal.returns-in-None-clause-path
returns-in-None-clause-path c =
    let input = c.args.target.now in
    let none = position_or_len_is (λ (b : ℕ). b == 63) input (length input) 0 (omega arith) (search rules) (search rules) in
    sym (ap (λ n. take n input) none ∙ take_all (length input) input (omega arith))

pub returns-in-None-clause-params : goal.returns-in-None-clause-params
returns-in-None-clause-params c =
    let input = c.args.target.now in
    let none = position_or_len_is (λ (b : ℕ). b == 63) input (length input) 0 (omega arith) (search rules) (search rules) in
    sym (ap (λ n. drop (n + 1) input) none ∙ drop_all (length input + 1) input (omega arith))
