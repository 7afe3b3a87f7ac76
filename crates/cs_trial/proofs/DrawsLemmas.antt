-- Draws one after the other: one more draw, and a draw by its place.
--
--   behind_more      the state behind one more draw
--   behind_sum       the state behind some draws and then others
--   draws_more       one more draw with the same bound
--   length_draws     as many numbers as bounds
--   drawn_at         the number that is drawn at a place
use Rattle.std.proofs.Common.{◌≡◌, ℕ, zero, suc, ◌+◌, ◌<◌, [], ◌∷◌, ◌++◌, length, get_or, refl, ap, ◌∙◌, add-one, arith}
use Rattle.std.specs.Prelude.{replicate}
use Rattle.cs_model_trial.specs.Generator.{next_state, behind, drawn, draws}

behind_suc : (n x : ℕ) → behind (suc n) x ≡ next_state (behind n x)
unfolding behind
behind_suc zero x = refl
behind_suc (suc n) x = behind_suc n (next_state x)

pub behind_more : (n x : ℕ) → behind (n + 1) x ≡ next_state (behind n x)
behind_more n x = rw add-one (behind_suc n x)

pub behind_sum : (m n x : ℕ) → behind (m + n) x ≡ behind n (behind m x)
unfolding behind
behind_sum zero n x = (let e : zero + n ≡ n = omega arith in ap (λ k. behind k x) e)
behind_sum (suc m) n x = (let e : suc m + n ≡ suc (m + n) = omega arith in ap (λ k. behind k x) e ∙ behind_sum m n (next_state x))

draws_suc : (n b x : ℕ) → draws (replicate (suc n) b) x ≡ draws (replicate n b) x ++ drawn b (behind n x) ∷ []
unfolding behind draws
draws_suc zero b x = refl
draws_suc (suc n) b x = ap (λ ds. drawn b x ∷ ds) (draws_suc n b (next_state x))

pub draws_more : (n b x : ℕ) → draws (replicate (n + 1) b) x ≡ draws (replicate n b) x ++ drawn b (behind n x) ∷ []
draws_more n b x = rw add-one (draws_suc n b x)

pub length_draws : (n b x : ℕ) → length (draws (replicate n b) x) ≡ n
unfolding draws
length_draws zero b x = refl
length_draws (suc n) b x = ap suc (length_draws n b (next_state x))

pub drawn_at : (n b x i : ℕ) → i < n → get_or (draws (replicate n b) x) i 0 ≡ drawn b (behind i x)
unfolding behind draws
drawn_at zero b x i h = absurd (omega arith)
drawn_at (suc n) b x zero h = refl
drawn_at (suc n) b x (suc i) h = drawn_at n b (next_state x) i (omega arith)
