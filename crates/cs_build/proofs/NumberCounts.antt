-- Counting numbers one by one.
--
--   AreCounted      the counts of some first numbers
--   none_counted    before there are numbers
--   one_counted     one number more
use Rattle.std.proofs.Common.{◌≡◌, ◌≢◌, ℕ, ◌+◌, ◌<◌, ◌≤◌, List, length, take, get_or, set, replicate, refl, sym, ◌∙◌, ap, arith, length-set, get_or-set_same, get_or-set_other, true, false}
use Rattle.std.specs.Prelude.{◌==◌}
use Rattle.std.specs.List.{count_by}
use Rattle.std.proofs.lemmas.Bool.Decides.{nat_tests}
use Rattle.std.proofs.lemmas.List.{length-replicate, get_or-replicate, length-take}
use Rattle.std.proofs.lemmas.List.Sums.{count_by_more_yes, count_by_more_no, count_by-le-length}

pub record AreCounted (words : ℕ) (numbers : List ℕ) (i : ℕ) (counts : List ℕ) : Type 0 where
  pub each : length counts ≡ words
  pub at : (n : ℕ) → n < words → get_or counts n 0 ≡ count_by (λ m. m == n) (take i numbers)

pub none_counted : (words : ℕ) (numbers : List ℕ) → AreCounted words numbers 0 (replicate words 0)
none_counted words numbers = record { each = length-replicate words 0; at = λ n l. get_or-replicate words n 0 0 l }

-- no count is greater than there are numbers
pub few_counted : (words : ℕ) (numbers : List ℕ) (i : ℕ) (counts : List ℕ) (n : ℕ) → AreCounted words numbers i counts → n < words → get_or counts n 0 ≤ i
few_counted words numbers i counts n c l = omega (arith, c.at n l, count_by-le-length (λ m. m == n) (take i numbers), length-take i numbers)

pub one_counted : (words : ℕ) (numbers : List ℕ) (i : ℕ) (counts : List ℕ) (m : ℕ) → i < length numbers → m ≡ get_or numbers i 0 → m < words → AreCounted words numbers i counts → AreCounted words numbers (i + 1) (set counts m (get_or counts m 0 + 1))
one_counted words numbers i counts m l is below c = record {
  each = length-set counts m (get_or counts m 0 + 1) ∙ c.each;
  at = λ n h. elim (m == n) as (λ b. (m == n) ≡ b → get_or (set counts m (get_or counts m 0 + 1)) n 0 ≡ count_by (λ k. k == n) (take (i + 1) numbers)) [
    | true ↦ λ e.
        let same : m ≡ n = grind (arith, nat_tests) in
        let here : get_or (set counts m (get_or counts m 0 + 1)) m 0 ≡ get_or counts m 0 + 1 = get_or-set_same counts m (get_or counts m 0 + 1) 0 (omega (arith, c.each, below)) in
        let more = count_by_more_yes (λ k. k == n) numbers i 0 l (ap (λ k. k == n) (sym is) ∙ e) in
        ap (λ k. get_or (set counts m (get_or counts m 0 + 1)) k 0) (sym same) ∙ here ∙ ap (λ k. get_or counts k 0 + 1) same ∙ ap (λ k. k + 1) (c.at n h) ∙ sym more
    | false ↦ λ e.
        let other : n ≢ m = λ s. differ m n e s in
        get_or-set_other counts m n (get_or counts m 0 + 1) 0 other ∙ c.at n h ∙ sym (count_by_more_no (λ k. k == n) numbers i 0 l (ap (λ k. k == n) (sym is) ∙ e))
  ] refl;
}
  where
    differ : (m n : ℕ) → (m == n) ≡ false → n ≡ m → ⊥
    differ m n e s = grind (arith, nat_tests)
