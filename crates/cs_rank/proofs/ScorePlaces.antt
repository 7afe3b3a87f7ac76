-- One more member of a set, and the first n of its listing.
--
--   place s xs         xs with s at its place in the order
--   pushed             the listing with one more member is the listing with it at its place
--   take-placed        the first n of it depend on the first n of the listing alone
--   unmoved            a member behind the first n leaves them as they are
--   still_full         after a member that isn't behind w, none of the first n is
--   take_rises         the first n of a list that strictly ascends do so
use Rattle.std.proofs.Common.{◌≡◌, ℕ, zero, suc, ◌≤◌, ◌<◌, ◌-◌, Bool, true, false, List, [], ◌∷◌, ◌++◌, cond, length, take, get_or, take_all, refl, sym, ◌∙◌, ap, subst, arith, true≢false}
use Rattle.std.specs.Prelude.{Some, map}
use Rattle.std.specs.List.{AllByRecursion}
use Rattle.std.specs.List.Sorted.{IsStrictlySortedBy}
use Rattle.std.specs.Ordering.{eq_by_cmp, is_lt, is_gt}
use Rattle.std.specs.declared.cmp.Ordering.{Ordering}
use Rattle.std.specs.declared.cmp.Ordering.TheVariants.{Less, Equal, Greater}
use Rattle.std.specs.Cmp.{IsTotalOrder, alike_right, tied_itself}
use Rattle.std.specs.FinMap.{FinMap, find, put, keys, entries, insert, from_entries, IsAntisymmetric, same_map, get-from_entries, get-insert, entries-insert}
use Rattle.std.specs.FinMap.Entries.{by_order}
use Rattle.cs_base.specs.content.Members.{marked, members_in}
use Rattle.cs_rank.specs.Kept.{IsUpTo, IsFull}

last_test : {A : Type 0} (a b : Bool) (x y : A) → cond a x (cond b x y) ≡ cond b x (cond a x y)
last_test true true x y = refl
last_test true false x y = refl
last_test false b x y = refl

module _ {X : Type 0} (R : X → X → Ordering) where
  -- xs with s at its place; where an entry ties with s, it stands for s
  abbrev pub place : X → List X → List X
  place s [] = s ∷ []
  place s (x ∷ xs) = by_order (R s x) (s ∷ x ∷ xs) (x ∷ xs) (x ∷ place s xs)

  pub keys_put : (s : X) (es : List (X × Unit {0})) → map (λ e. e.0) (put R s tt es) ≡ place s (map (λ e. e.0) es)
  keys_put s [] = refl
  keys_put s (e ∷ es) =
      elim (R s e.0) as (λ o. map (λ e. e.0) (by_order o ((s, tt) ∷ e ∷ es) ((e.0, tt) ∷ es) (e ∷ put R s tt es)) ≡ by_order o (s ∷ e.0 ∷ map (λ e. e.0) es) (e.0 ∷ map (λ e. e.0) es) (e.0 ∷ place s (map (λ e. e.0) es))) [
        | Less ↦ refl
        | Equal ↦ refl
        | Greater ↦ ap (λ l. e.0 ∷ l) (keys_put s es)
      ]

  find_push : (q : X) (xs : List X) (s : X) → find R q (map marked (xs ++ s ∷ [])) ≡ cond (eq_by_cmp R q s) (Some tt) (find R q (map marked xs))
  find_push q [] s = refl
  find_push q (x ∷ xs) s = ap (λ m. cond (eq_by_cmp R q x) (Some tt) m) (find_push q xs s) ∙ last_test (eq_by_cmp R q x) (eq_by_cmp R q s) (Some tt) (find R q (map marked xs))

  pub pushed : IsTotalOrder R → IsAntisymmetric R → (xs : List X) (s : X) → members_in R (xs ++ s ∷ []) ≡ place s (members_in R xs)
  pushed o exact xs s =
      let m : FinMap R (Unit {0}) = from_entries (map marked xs) in
      ap keys (same_map o exact (from_entries (map marked (xs ++ s ∷ []))) (insert m s tt) (λ q.
      get-from_entries o (map marked (xs ++ s ∷ [])) q ∙ find_push q xs s
      ∙ sym (get-insert o m s tt q ∙ ap (cond (eq_by_cmp R q s) (Some tt)) (get-from_entries o (map marked xs) q))))
      ∙ ap (map (λ e. e.0)) (entries-insert o m s tt) ∙ keys_put s (entries m)

  pub take_again : (n : ℕ) (xs : List X) → take n (take n xs) ≡ take n xs
  take_again zero xs = refl
  take_again (suc n) [] = refl
  take_again (suc n) (x ∷ xs) = ap (λ l. x ∷ l) (take_again n xs)

  fewer : (n : ℕ) (xs : List X) → take n xs ≡ take n (take (suc n) xs)
  fewer zero xs = refl
  fewer (suc n) [] = refl
  fewer (suc n) (x ∷ xs) = ap (λ l. x ∷ l) (fewer n xs)

  take_behind : (n : ℕ) (x : X) (xs : List X) → take n (x ∷ xs) ≡ take n (x ∷ take n xs)
  take_behind zero x xs = refl
  take_behind (suc n) x xs = ap (λ l. x ∷ l) (fewer n xs)

  pub take-placed : (n : ℕ) (s : X) (xs : List X) → take n (place s xs) ≡ take n (place s (take n xs))
  take-placed zero s xs = refl
  take-placed (suc n) s [] = refl
  take-placed (suc n) s (x ∷ xs) =
      elim (R s x) as (λ o. take (suc n) (by_order o (s ∷ x ∷ xs) (x ∷ xs) (x ∷ place s xs)) ≡ take (suc n) (by_order o (s ∷ x ∷ take n xs) (x ∷ take n xs) (x ∷ place s (take n xs)))) [
        | Less ↦ ap (λ l. s ∷ l) (take_behind n x xs)
        | Equal ↦ ap (λ l. x ∷ l) (sym (take_again n xs))
        | Greater ↦ ap (λ l. x ∷ l) (take-placed n s xs)
      ]

  -- s isn't before w, and x isn't behind w, so s isn't before x
  not_before : IsTotalOrder R → (s w x : X) → is_lt (R s w) ≡ false → is_gt (R x w) ≡ false → is_lt (R s x) ≡ false
  not_before o s w x h k =
      elim (R s x) as (λ r. R s x ≡ r → is_lt r ≡ false) [
        | Less ↦ λ p. elim (R x w) as (λ r. R x w ≡ r → is_gt r ≡ false → true ≡ false) [
          | Less ↦ λ q _. sym (ap is_lt (o.trans s x w p q)) ∙ h
          | Equal ↦ λ q _. sym (ap is_lt (sym (alike_right o x w s q) ∙ p)) ∙ h
          | Greater ↦ λ q e. e
        ] refl k
        | Equal ↦ λ p. refl
        | Greater ↦ λ p. refl
      ] refl

  unmoved_by : (n : ℕ) (s : X) (xs : List X) → n ≤ length xs → AllByRecursion (λ x. is_lt (R s x) ≡ false) (take n xs) → take n (place s xs) ≡ take n xs
  unmoved_by zero s xs long h = refl
  unmoved_by (suc n) s [] long h = absurd (omega arith)
  unmoved_by (suc n) s (x ∷ xs) long h =
      elim (R s x) as (λ o. is_lt o ≡ false → take (suc n) (by_order o (s ∷ x ∷ xs) (x ∷ xs) (x ∷ place s xs)) ≡ x ∷ take n xs) [
        | Less ↦ λ e. absurd (true≢false e)
        | Equal ↦ λ e. refl
        | Greater ↦ λ e. ap (λ l. x ∷ l) (unmoved_by n s xs (omega arith) h.1)
      ] h.0

  none_before : IsTotalOrder R → (s w : X) → is_lt (R s w) ≡ false → (xs : List X) → IsUpTo R w xs → AllByRecursion (λ x. is_lt (R s x) ≡ false) xs
  none_before o s w h [] up = tt
  none_before o s w h (x ∷ xs) up = (not_before o s w x h up.0, none_before o s w h xs up.1)

  pub unmoved : IsTotalOrder R → (n : ℕ) (s w : X) (xs : List X) → IsFull R n w xs → is_lt (R s w) ≡ false → take n (place s xs) ≡ take n xs
  unmoved o n s w xs full h = unmoved_by n s xs full.enough (none_before o s w h (take n xs) full.upto)

  upto_fewer : (n : ℕ) (w : X) (xs : List X) → IsUpTo R w (take (suc n) xs) → IsUpTo R w (take n xs)
  upto_fewer zero w xs h = tt
  upto_fewer (suc n) w [] h = tt
  upto_fewer (suc n) w (x ∷ xs) h = (h.0, upto_fewer n w xs h.1)

  upto_nothing : (n : ℕ) (w : X) → IsUpTo R w (take n [])
  upto_nothing zero w = tt
  upto_nothing (suc n) w = tt

  upto_placed : (n : ℕ) (s w : X) (xs : List X) → is_gt (R s w) ≡ false → IsUpTo R w (take n xs) → IsUpTo R w (take n (place s xs))
  upto_placed zero s w xs e h = tt
  upto_placed (suc n) s w [] e h = (e, upto_nothing n w)
  upto_placed (suc n) s w (x ∷ xs) e h =
      elim (R s x) as (λ o. IsUpTo R w (take (suc n) (by_order o (s ∷ x ∷ xs) (x ∷ xs) (x ∷ place s xs)))) [
        | Less ↦ (e, upto_fewer n w (x ∷ xs) h)
        | Equal ↦ h
        | Greater ↦ (h.0, upto_placed n s w xs e h.1)
      ]

  longer : (s : X) (xs : List X) → length xs ≤ length (place s xs)
  longer s [] = omega arith
  longer s (x ∷ xs) =
      let ih = longer s xs in
      elim (R s x) as (λ o. suc (length xs) ≤ length (by_order o (s ∷ x ∷ xs) (x ∷ xs) (x ∷ place s xs))) [
        | Less ↦ omega arith
        | Equal ↦ omega arith
        | Greater ↦ omega arith
      ]

  pub still_full : (n : ℕ) (s w : X) (xs : List X) → IsFull R n w xs → is_gt (R s w) ≡ false → IsFull R n w (place s xs)
  still_full n s w xs full e = record { enough = (let more = longer s xs in let was = full.enough in omega arith); upto = upto_placed n s w xs e full.upto }

  rest_rises : (n : ℕ) (x : X) (xs : List X) → AllByRecursion (λ y. R x y ≡ Less) xs → AllByRecursion (λ y. R x y ≡ Less) (take n xs)
  rest_rises zero x xs h = tt
  rest_rises (suc n) x [] h = tt
  rest_rises (suc n) x (y ∷ xs) h = (h.0, rest_rises n x xs h.1)

  pub take_rises : (n : ℕ) (xs : List X) → IsStrictlySortedBy R xs → IsStrictlySortedBy R (take n xs)
  unfolding IsStrictlySortedBy
  take_rises zero xs h = tt
  take_rises (suc n) [] h = tt
  take_rises (suc n) (x ∷ xs) h = (rest_rises n x xs h.0, take_rises n xs h.1)

  pub picked : (P : X → Type 0) (xs : List X) (k : ℕ) (d : X) → AllByRecursion P xs → k < length xs → P (get_or xs k d)
  picked P [] k d h lt = absurd (omega arith)
  picked P (x ∷ xs) zero d h lt = h.0
  picked P (x ∷ xs) (suc k) d h lt = picked P xs k d h.1 (omega arith)

  upto_last : IsTotalOrder R → (x : X) (xs : List X) (w : X) → IsStrictlySortedBy R (x ∷ xs) → w ≡ get_or (x ∷ xs) (length xs) w → IsUpTo R w (x ∷ xs)
  unfolding IsStrictlySortedBy
  upto_last o x [] w up e = (ap is_gt (ap (R x) e ∙ tied_itself o x), tt)
  upto_last o x (y ∷ ys) w up e =
      (ap is_gt (ap (R x) e ∙ picked (λ z. R x z ≡ Less) (y ∷ ys) (length ys) w up.0 (omega arith)), upto_last o y ys w up.1 e)

  -- the last of so many that ascend
  pub full_at_last : IsTotalOrder R → (n : ℕ) (xs : List X) (w : X) → IsStrictlySortedBy R xs → length xs ≡ n → 0 < n → w ≡ get_or xs (n - 1) w → IsFull R n w xs
  full_at_last o n [] w up len some e = absurd (omega arith)
  full_at_last o n (x ∷ xs) w up len some e =
      let at : n - 1 ≡ length xs = omega arith in
      record {
        enough = omega arith;
        upto = subst (IsUpTo R w) (sym (take_all n (x ∷ xs) (omega arith))) (upto_last o x xs w up (e ∙ ap (λ k. get_or (x ∷ xs) k w) at));
      }
