-- Jumps one after the other, and a jump twice as far.
--
--   jumps j n x        the state behind n jumps from x
--   twice_is           a jump over twice as many draws
--   jumps_even, jumps_odd      jumps that are half as many and twice as far
--   jumps_behind       jumps over one draw each
use Rattle.std.proofs.Common.{◌≡◌, ℕ, zero, suc, ◌+◌, ◌*◌, ◌/◌, ◌%◌, ◌^◌, refl, sym, ap, ◌∙◌, arith, add-suc, suc-add, add-one}
use Rattle.std.proofs.lemmas.Nat.{mul-mod_first, mul-mod_second}
use Rattle.std.proofs.Math.Nat.{add_comm}
use native.Mathlib.Nat.{mod-add-mod, add-mod}
use Rattle.cs_model_trial.specs.Generator.{behind}
use Rattle.cs_model_trial.specs.declared.sizes.TheConstants.{MULTIPLIER, INCREMENT}
use Rattle.cs_trial.specs.Jumps.{jumped}
use Rattle.cs_trial.specs.declared.draws.Jump.{Jump}

-- of no jumps the state itself
unfoldable pub jumps : Jump → ℕ → ℕ → ℕ
jumps j zero x = x
jumps j (suc n) x = jumps j n (jumped j x)

-- the first jump's sum goes through the second
pub twice_is : (t p x : ℕ)
    → (x * (t * t % 2 ^ 64) + (p * t + p) % 2 ^ 64) % 2 ^ 64 ≡ ((x * t + p) % 2 ^ 64 * t + p) % 2 ^ 64
twice_is t p x =
    let M = 2 ^ 64 in
    let left : (x * (t * t % M) + (p * t + p) % M) % M ≡ (x * (t * t) + (p * t + p)) % M =
    ap (λ (n : ℕ). n % M) (add_comm (x * (t * t % M)) ((p * t + p) % M)) ∙ mod-add-mod (p * t + p) M (x * (t * t % M))
    ∙ ap (λ (n : ℕ). n % M) (add_comm (p * t + p) (x * (t * t % M))) ∙ add-mod (x * (t * t % M)) (p * t + p) M
    ∙ ap (λ (n : ℕ). (n + (p * t + p) % M) % M) (mul-mod_second x (t * t) M) ∙ sym (add-mod (x * (t * t)) (p * t + p) M) in
    let right : ((x * t + p) % M * t + p) % M ≡ ((x * t + p) * t + p) % M =
    sym (mod-add-mod ((x * t + p) % M * t) M p) ∙ rw (mul-mod_first (x * t + p) t M) (mod-add-mod ((x * t + p) * t) M p) in
    let same : x * (t * t) + (p * t + p) ≡ (x * t + p) * t + p = omega arith in
    left ∙ ap (λ (n : ℕ). n % M) same ∙ sym right

jumps_double : (j k : Jump) (n x : ℕ) → ((y : ℕ) → jumped k y ≡ jumped j (jumped j y)) → jumps k n x ≡ jumps j (n + n) x
unfolding jumps
jumps_double j k zero x twice = refl
jumps_double j k (suc n) x twice =
    let two_more : suc n + suc n ≡ suc (suc (n + n)) = rw (suc-add n (suc n), add-suc n n) refl in
    jumps_double j k n _ twice ∙ ap (jumps j (n + n)) (twice x) ∙ ap (λ (m : ℕ). jumps j m x) (sym two_more)

pub jumps_even : (j k : Jump) (n x : ℕ) → ((y : ℕ) → jumped k y ≡ jumped j (jumped j y)) → ¬ (n % 2 ≡ 1) → jumps k (n / 2) x ≡ jumps j n x
jumps_even j k n x twice even =
    let halves : n / 2 + n / 2 ≡ n = omega arith in
    jumps_double j k (n / 2) x twice ∙ ap (λ (m : ℕ). jumps j m x) halves

pub jumps_odd : (j k : Jump) (n x : ℕ) → ((y : ℕ) → jumped k y ≡ jumped j (jumped j y)) → n % 2 ≡ 1 → jumps k (n / 2) (jumped j x) ≡ jumps j n x
unfolding jumps
jumps_odd j k n x twice odd =
    let halves : suc (n / 2 + n / 2) ≡ n = omega (arith, add-one (n / 2 + n / 2)) in
    jumps_double j k (n / 2) _ twice ∙ ap (λ (m : ℕ). jumps j m x) halves

pub jumps_behind : (j : Jump) (n x : ℕ) → j.times ≡ MULTIPLIER → j.plus ≡ INCREMENT → jumps j n x ≡ behind n x
unfolding jumps behind
jumps_behind j zero x t p = refl
jumps_behind j (suc n) x t p = jumps_behind j n _ t p ∙ ap (behind n) (rw (t, p) refl)
