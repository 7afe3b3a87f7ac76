-- Words in order: those before a text come first, and behind them those that begin with it.
use Rattle.std.proofs.Common.{◌≡◌, ℕ, ◌+◌, ◌-◌, ◌<◌, ◌≤◌, ◌&&◌, Bool, true, false, true≢false, List, [], ◌∷◌, length, get_or, drop, length-drop, get_or-drop, cond, refl, sym, ◌∙◌, ap, subst, arith}
use Rattle.std.specs.Bool.{◌==◌}
use Rattle.std.specs.Prelude.{nat_lt, nat_le}
use Rattle.std.specs.Ordering.{nat_cmp, is_lt}
use Rattle.std.specs.Cmp.Lexicographic.{slice_cmp}
use Rattle.std.specs.List.{list_any}
use Rattle.std.specs.List.Sorted.{IsStrictlySortedBy, IsPartitionedBy, IsPartitionPoint}
use Rattle.std.specs.Str.{bytes_eq}
use Rattle.std.proofs.lemmas.Bool.{false_from_ne_true}
use Rattle.std.proofs.lemmas.Bool.Decides.{nat_tests}
use Rattle.std.proofs.lemmas.Cmp.{same_from_slice_cmp}
use Rattle.std.proofs.lemmas.List.Elements.{All-from_get_or}
use Rattle.std.proofs.lemmas.List.Folds.{list_any_none}
use Rattle.std.proofs.lemmas.Map.Keys.{Less-from_sorted}
use Rattle.std.proofs.lemmas.Slice.Eq.{bytes_eq-Decides}
use Rattle.cs_model.specs.Answers.{begins}
use Rattle.cs_vocab.specs.Ranges.{IsRange}

-- v stands before w by bytes: `slice_cmp`, by recursion on both
before : List ℕ → List ℕ → Bool
before v [] = false
before [] (y ∷ w) = true
before (x ∷ v) (y ∷ w) = cond (x == y) (before v w) (nat_lt x y)

before_is : (v w : List ℕ) → is_lt (slice_cmp nat_cmp v w) ≡ before v w
unfolding before
before_is v w = same_from_slice_cmp nat_cmp is_lt before refl (λ _ _. refl) (λ _ _. refl) (λ x y xs ys o h. grind (arith, nat_tests)) v w (slice_cmp nat_cmp v w) refl

before-trans : (v w p : List ℕ) → before v w ≡ true → before w p ≡ true → before v p ≡ true
unfolding before
before-trans v [] p h k = absurd (true≢false (sym h))
before-trans v (y ∷ w) [] h k = absurd (true≢false (sym k))
before-trans [] (y ∷ w) (z ∷ p) h k = refl
before-trans (x ∷ v) (y ∷ w) (z ∷ p) h k = grind (arith, nat_tests, before-trans v w p)

-- what stands before p doesn't begin with it
before-without : (p w : List ℕ) → before w p ≡ true → begins p w ≡ false
unfolding before
before-without [] w h = absurd (true≢false (sym h))
before-without (z ∷ p) [] h = refl
before-without (z ∷ p) (y ∷ w) h = grind (arith, nat_tests, before-without p w)

-- v before w, v not before p, and w begins with p: so does v
begins-between : (p v w : List ℕ) → before v w ≡ true → before v p ≡ false → begins p w ≡ true → begins p v ≡ true
unfolding before
begins-between [] v w h k b = refl
begins-between (z ∷ p) [] w h k b = absurd (true≢false k)
begins-between (z ∷ p) (x ∷ v) [] h k b = absurd (true≢false (sym h))
begins-between (z ∷ p) (x ∷ v) (y ∷ w) h k b = grind (arith, nat_tests, begins-between p v w)

before-irreflexive : (w : List ℕ) → before w w ≡ false
unfolding before
before-irreflexive [] = refl
before-irreflexive (x ∷ w) = let same : (x == x) ≡ true = grind (arith, nat_tests) in rw same (before-irreflexive w)

-- ---- words that ascend

module _ (ws : List (List ℕ)) (up : IsStrictlySortedBy (slice_cmp nat_cmp) ws) where
  before_at : (i j : ℕ) (d : List ℕ) → i < j → j < length ws → before (get_or ws i d) (get_or ws j d) ≡ true
  before_at i j d h l = sym (before_is (get_or ws i d) (get_or ws j d)) ∙ ap is_lt (Less-from_sorted (slice_cmp nat_cmp) ws i j d up h l)

  -- those before a text come first
  pub split_before : (p : List ℕ) → IsPartitionedBy (λ w. is_lt (slice_cmp nat_cmp w p)) ws
  split_before p i j d h l low =
      elim (nat_lt i j) as (λ b. nat_lt i j ≡ b → is_lt (slice_cmp nat_cmp (get_or ws i d) p) ≡ true) [
        | true ↦ λ t. before_is (get_or ws i d) p ∙ before-trans (get_or ws i d) (get_or ws j d) p (before_at i j d (grind (arith, nat_tests)) l) (sym (before_is (get_or ws j d) p) ∙ low)
        | false ↦ λ t. let same : i ≡ j = grind (arith, nat_tests) in subst (λ k. is_lt (slice_cmp nat_cmp (get_or ws k d) p) ≡ true) (sym same) low
      ] refl

  module _ (p : List ℕ) (lo : ℕ) (inside : lo ≤ length ws) (low : IsPartitionPoint (λ w. is_lt (slice_cmp nat_cmp w p) ≡ true) (λ w. is_lt (slice_cmp nat_cmp w p) ≡ false) ws lo) where
    -- behind them those that begin with it come first
    pub split_begins : IsPartitionedBy (begins p) (drop lo ws)
    split_begins i j d h l b =
        let far : lo + j < length ws = omega (arith, length-drop lo ws) in
        elim (nat_lt i j) as (λ t. nat_lt i j ≡ t → begins p (get_or (drop lo ws) i d) ≡ true) [
          | true ↦ λ t.
              let first : i < j = grind (arith, nat_tests) in
              ap (begins p) (get_or-drop lo ws i d)
              ∙ begins-between p (get_or ws (lo + i) d) (get_or ws (lo + j) d) (before_at (lo + i) (lo + j) d (omega (arith, first)) far)
              (sym (before_is (get_or ws (lo + i) d) p) ∙ low.1 (lo + i) d (omega arith) (omega (arith, first, far)))
              (ap (begins p) (sym (get_or-drop lo ws j d)) ∙ b)
          | false ↦ λ t. let same : i ≡ j = grind (arith, nat_tests) in subst (λ k. begins p (get_or (drop lo ws) k d) ≡ true) (sym same) b
        ] refl

    module _ (count : ℕ) (few : count ≤ length (drop lo ws)) (found : IsPartitionPoint (λ w. begins p w ≡ true) (λ w. begins p w ≡ false) (drop lo ws) count) where
      behind : (n : ℕ) → lo ≤ n → begins p (get_or (drop lo ws) (n - lo) []) ≡ begins p (get_or ws n [])
      behind n h = ap (begins p) (get_or-drop lo ws (n - lo) [] ∙ ap (λ k. get_or ws k []) (omega (arith, h)))

      begins_at : (n : ℕ) → n < length ws → (a b : Bool) → nat_le lo n ≡ a → nat_lt n (lo + count) ≡ b → begins p (get_or ws n []) ≡ (a && b)
      begins_at n l false b h k = before-without p (get_or ws n []) (sym (before_is (get_or ws n []) p) ∙ low.0 n [] (omega arith) (grind (arith, nat_tests)))
      begins_at n l true true h k =
          let on : lo ≤ n = grind (arith, nat_tests) in
          let within : n < lo + count = grind (arith, nat_tests) in
          sym (behind n on) ∙ found.0 (n - lo) [] (omega arith) (omega (arith, on, within))
      begins_at n l true false h k =
          let on : lo ≤ n = grind (arith, nat_tests) in
          let past : lo + count ≤ n = grind (arith, nat_tests) in
          sym (behind n on) ∙ found.1 (n - lo) [] (omega (arith, on, past)) (omega (arith, on, l, length-drop lo ws))

      pub range_is : IsRange ws p lo (lo + count)
      range_is = record {
        ordered = omega arith;
        within = omega (arith, length-drop lo ws, few);
        holds = λ n l. begins_at n l (nat_le lo n) (nat_lt n (lo + count)) refl refl;
      }

-- ---- one word

pub three_ways : {G : Type 0} (k n : ℕ) → (k < n → G) → (k ≡ n → G) → (n < k → G) → G
three_ways {G} k n f g h =
    elim (nat_lt k n) as (λ b. nat_lt k n ≡ b → G) [
      | true ↦ λ t. f (grind (arith, nat_tests))
      | false ↦ λ t. elim (nat_lt n k) as (λ b. nat_lt n k ≡ b → G) [
        | true ↦ λ u. h (grind (arith, nat_tests))
        | false ↦ λ u. g (grind (arith, nat_tests))
      ] refl
    ] refl

-- it isn't there where the first word that doesn't stand before it is another one
pub absent_from : (ws : List (List ℕ)) → IsStrictlySortedBy (slice_cmp nat_cmp) ws → (w : List ℕ) (n : ℕ)
    → IsPartitionPoint (λ v. is_lt (slice_cmp nat_cmp v w) ≡ true) (λ v. is_lt (slice_cmp nat_cmp v w) ≡ false) ws n
    → (n < length ws → bytes_eq (get_or ws n []) w ≡ false) → list_any (bytes_eq w) ws ≡ false
absent_from ws up w n parts other =
    list_any_none (bytes_eq w) ws (All-from_get_or (λ v. bytes_eq w v ≡ false) ws [] (λ k l. false_from_ne_true _ (λ t. at k l ((bytes_eq-Decides w (get_or ws k [])).0 t))))
  where
    at : (k : ℕ) → k < length ws → w ≡ get_or ws k [] → ⊥
    at k l e = three_ways k n
        (λ h. true≢false (sym (parts.0 k [] (omega arith) h) ∙ ap (λ v. is_lt (slice_cmp nat_cmp v w)) (sym e) ∙ before_is w w ∙ before-irreflexive w))
        (λ h. true≢false (sym ((bytes_eq-Decides (get_or ws n []) w).1 (ap (λ i. get_or ws i []) (sym h) ∙ sym e)) ∙ other (omega (arith, h))))
        (λ h. true≢false (sym (before_at ws up n k [] h l) ∙ ap (before (get_or ws n [])) (sym e) ∙ sym (before_is (get_or ws n []) w) ∙ parts.1 n [] (omega arith) (omega (arith, h))))
