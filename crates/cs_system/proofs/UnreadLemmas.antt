-- What is left of bytes of which the first were given.
--
--   lent_rest     a range up to the end is what is left
--   left_behind   those that were given, and what is left behind them
--   left_none     those that were given are all that was left
use Rattle.std.proofs.Common.{◌≡◌, ◌∙◌, ap, sym, subst, ℕ, ◌+◌, ◌-◌, ◌≤◌, ◌++◌, List, [], take, drop, length, arith}
use Rattle.std.specs.Prelude.{slice_range}
use Rattle.std.proofs.lemmas.List.{length-drop, take-append-drop, take-append-le, take-take, take_all, drop-drop, drop_all, length-take-le}

pub lent_rest : (bytes rest : List ℕ) (given : ℕ) → rest ≡ slice_range bytes given (length bytes) → rest ≡ drop given bytes
lent_rest bytes rest given is = is ∙ take_all (length bytes - given) (drop given bytes) (omega (arith, length-drop given bytes))

-- `out` begins with a copy of the first of them, `count`, of which n are given
pub left_behind : (bytes copy out : List ℕ) (given count n : ℕ) → copy ≡ take count (drop given bytes) → n ≤ count → count ≤ length (drop given bytes) → drop given bytes ≡ take n (copy ++ out) ++ drop (given + n) bytes
left_behind bytes copy out given count n copied below within =
    let rest : List ℕ = drop given bytes in
    let fits : n ≤ length (take count rest) = subst (λ k. n ≤ k) (sym (length-take-le count rest within)) below in
    let begins : take n (take count rest ++ out) ≡ take n rest = take-append-le n (take count rest) out fits ∙ take-take n count rest below in
    let parts : rest ≡ take n rest ++ drop (given + n) bytes = sym (take-append-drop n rest) ∙ ap (λ l. take n rest ++ l) (drop-drop n given bytes) in
    parts ∙ ap (λ l. l ++ drop (given + n) bytes) (sym (ap (λ l. take n (l ++ out)) copied ∙ begins))

pub left_none : (bytes copy out : List ℕ) (given count n : ℕ) → copy ≡ take count (drop given bytes) → n ≤ count → count ≤ length (drop given bytes) → length bytes ≤ given + n → drop given bytes ≡ take n (copy ++ out) ++ []
left_none bytes copy out given count n copied below within all = left_behind bytes copy out given count n copied below within ∙ ap (λ l. take n (copy ++ out) ++ l) (drop_all (given + n) bytes all)
