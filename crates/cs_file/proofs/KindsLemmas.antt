-- Kinds of words, as slices of them.
--
--   least_drop, least_take      at most so many, from one on that may not be there
--   kind_plain, kind_front      the kind of a word, by where the next colon stands
use Rattle.std.proofs.Common.{◌≡◌, ℕ, zero, suc, ◌+◌, ◌<◌, ◌≤◌, Bool, true, false, cond, not, eqb, List, [], ◌∷◌, length, get_or, take, drop, min, refl, sym}
use Rattle.std.proofs.Common.{ap, ◌∙◌, arith, inl, inr}
use Rattle.std.specs.List.{before_first, position_or_len}
use Rattle.std.proofs.lemmas.Bool.{cases_lt}
use Rattle.std.proofs.lemmas.List.{take_all}
use Rattle.cs_model.specs.Collection.{is_colon}
use Rattle.cs_model_index.specs.Partitions.{is_facet, kind_of}

drop_past : {X : Type 0} (xs : List X) (n : ℕ) → length xs ≤ n → drop n xs ≡ drop (length xs) xs
drop_past [] zero le = refl
drop_past [] (suc n) le = refl
drop_past (x ∷ xs) zero le = absurd (omega arith)
drop_past (x ∷ xs) (suc n) le = drop_past xs n (omega arith)

pub least_drop : {X : Type 0} (xs : List X) (n : ℕ) → drop (min n (length xs)) xs ≡ drop n xs
least_drop xs n =
    elim (cases_lt n (length xs)) [
      | inl lt ↦ let e : min n (length xs) ≡ n = omega arith in ap (λ (k : ℕ). drop k xs) e
      | inr le ↦ let e : min n (length xs) ≡ length xs = omega arith in ap (λ (k : ℕ). drop k xs) e ∙ sym (drop_past xs n le)
    ]

pub least_take : {X : Type 0} (xs : List X) (n : ℕ) → take (min n (length xs)) xs ≡ take n xs
least_take xs n =
    elim (cases_lt n (length xs)) [
      | inl lt ↦ let e : min n (length xs) ≡ n = omega arith in ap (λ (k : ℕ). take k xs) e
      | inr le ↦ let e : min n (length xs) ≡ length xs = omega arith in ap (λ (k : ℕ). take k xs) e ∙ take_all (length xs) xs (omega arith)
          ∙ sym (take_all n xs le)
    ]

-- ---- the kind of a word
pub kind_plain : (w : List ℕ) → is_facet w ≡ false → kind_of w ≡ []
kind_plain [] e = refl
kind_plain (b ∷ w) e = ap (λ (x : Bool). cond x (b ∷ before_first is_colon w) []) e

-- no colon stands before an index
abbrev pub NoColon : List ℕ → ℕ → Type 0
NoColon w end = (k : ℕ) → 1 ≤ k → k < end → eqb (get_or w k 0) 58 ≡ false

front : (w : List ℕ) (n : ℕ) → n ≤ length w → ((k : ℕ) → k < n → eqb (get_or w k 0) 58 ≡ false) → (n < length w → eqb (get_or w n 0) 58 ≡ true)
    → before_first is_colon w ≡ take n w
front [] zero le none here = refl
front [] (suc n) le none here = absurd (omega arith)
front (b ∷ w) zero le none here = ap (λ (x : Bool). take (cond (not x) (1 + position_or_len is_colon w) 0) (b ∷ w)) (here (omega arith))
front (b ∷ w) (suc n) le none here =
    let more : 1 + position_or_len is_colon w ≡ suc (position_or_len is_colon w) = omega arith in
    ap (λ (x : Bool). take (cond (not x) (1 + position_or_len is_colon w) 0) (b ∷ w)) (none 0 (omega arith))
    ∙ ap (λ (k : ℕ). take k (b ∷ w)) more
    ∙ ap (λ (x : List ℕ). b ∷ x) (front w n (omega arith) (λ k lt. none (suc k) (omega arith)) (λ lt. here (omega arith)))

pub kind_front : (w : List ℕ) (end : ℕ) → is_facet w ≡ true → 1 ≤ end → end ≤ length w → NoColon w end → (end < length w → eqb (get_or w end 0) 58 ≡ true)
    → take end w ≡ kind_of w
kind_front [] end e low le none here = absurd (omega arith)
kind_front (b ∷ w) zero e low le none here = absurd (omega arith)
kind_front (b ∷ w) (suc n) e low le none here =
    sym (ap (λ (x : Bool). cond x (b ∷ before_first is_colon w) []) e
    ∙ ap (λ (x : List ℕ). b ∷ x) (front w n (omega arith) (λ k lt. none (suc k) (omega arith) (omega arith)) (λ lt. here (omega arith))))
