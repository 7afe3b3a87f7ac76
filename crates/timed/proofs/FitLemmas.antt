-- Lists that are tested entry by entry.
--
--   AllTo P xs i, all_more       each of the first i entries; one more
--   RisesTo R xs i, rises_more   each of the first i entries comes behind the one before it; one more
use Rattle.std.proofs.Common.{◌≡◌, ℕ, ◌+◌, ◌<◌, List, get_or, sym, subst, arith, inl, inr}
use Rattle.std.proofs.lemmas.Bool.{cases_eq}

-- whatever stands in for an entry that isn't there
abbrev pub AllTo : {X : Type 0} → (X → Type 0) → List X → ℕ → Type 0
AllTo {X} P xs i = (k : ℕ) (e : X) → k < i → P (get_or xs k e)

abbrev pub RisesTo : {X : Type 0} → (X → X → Type 0) → List X → ℕ → Type 0
RisesTo {X} R xs i = (k : ℕ) (e : X) → k + 1 < i → R (get_or xs k e) (get_or xs (k + 1) e)

pub all_more : {X : Type 0} (P : X → Type 0) (xs : List X) (i : ℕ) → ((e : X) → P (get_or xs i e)) → AllTo P xs i → AllTo P xs (i + 1)
all_more P xs i here h = λ k e l. elim (cases_eq k i) [
  | inl same ↦ subst (λ (n : ℕ). P (get_or xs n e)) (sym same) (here e)
  | inr other ↦ h k e (omega arith)
]

pub rises_more : {X : Type 0} (R : X → X → Type 0) (xs : List X) (i : ℕ) → ((k : ℕ) (e : X) → k + 1 ≡ i → R (get_or xs k e) (get_or xs (k + 1) e)) → RisesTo R xs i → RisesTo R xs (i + 1)
rises_more R xs i here h = λ k e l. elim (cases_eq (k + 1) i) [
  | inl same ↦ here k e same
  | inr other ↦ h k e (omega arith)
]
