-- The number of at most seven digits.
use Rattle.std.proofs.Common.{ℕ, zero, suc, ◌*◌, ◌<◌, ◌≤◌, arith}

-- one and so many zeros
abbrev pub tens : ℕ → ℕ
tens zero = 1
tens (suc k) = 10 * tens k

pub tens_small : (i : ℕ) → i < 7 → tens i ≤ 1000000
tens_small zero h = omega arith
tens_small (suc zero) h = omega arith
tens_small (suc (suc zero)) h = omega arith
tens_small (suc (suc (suc zero))) h = omega arith
tens_small (suc (suc (suc (suc zero)))) h = omega arith
tens_small (suc (suc (suc (suc (suc zero))))) h = omega arith
tens_small (suc (suc (suc (suc (suc (suc zero)))))) h = omega arith
tens_small (suc (suc (suc (suc (suc (suc (suc i))))))) h = absurd (omega arith)
