-- The first item of some that breaks a rule, found from the left.
--
--   before_start, before_on       the value before the first, and before the next
--   Rest holds size first xs i at       the first break among the items from number i on, which lies at `at`, is that of all
--   rest_start, rest_on, rest_broken, rest_end        the steps of a search from the left
--   RestOfEven, even_start, even_on, even_broken, even_end      the same of items of one size, where item i lies at first + size * i
--   break_cons           the first break of an item and of those behind it
--   all_hold             where no item breaks a rule, each keeps it
--   held_anywhere        and so it does wherever the values lie
use Rattle.std.proofs.Common.{◌≡◌, ℕ, zero, suc, ◌+◌, ◌*◌, ◌<◌, ◌≤◌, ◌&&◌, Bool, true, false, not, cond, List, [], ◌∷◌, length, get_or, slice_index_or, drop}
use Rattle.std.proofs.Common.{Option, Some, None, refl, sym, ap, subst, ◌∙◌, add-one, arith}
use Rattle.std.specs.Prelude.{find}
use Rattle.std.specs.List.{list_all, slice_get}
use Rattle.std.specs.Option.{option_map}
use Rattle.std.proofs.lemmas.Bool.{and_from}
use Rattle.std.proofs.lemmas.List.{get_or_default}
use Rattle.std.proofs.Math.Nat.{mul-suc}
use Rattle.cs_model_index.specs.FileRules.{Placed, laid, place_of_item, break_of}
use Rattle.cs_file.specs.Opening.{before}

pub before_start : {X : Type 0} (xs : List X) → before xs 0 ≡ None
unfolding before
before_start xs = refl

got : {X : Type 0} (xs : List X) (i : ℕ) (x : X) → i < length xs → x ≡ get_or xs i x → slice_get xs i ≡ Some x
got [] i x lt e = absurd (omega arith)
got (y ∷ xs) zero x lt e = ap Some (sym e)
got (y ∷ xs) (suc i) x lt e = got xs i x (omega arith) e

pub before_on : {X : Type 0} (xs : List X) (i : ℕ) (x : X) → i < length xs → x ≡ get_or xs i x → before xs (i + 1) ≡ Some x
unfolding before
before_on xs i x lt e = let one : i + 1 ≡ suc i = omega arith in ap (before xs) one ∙ got xs i x lt e

pub Rest : {X : Type 0} → (Placed X → Bool) → (X → ℕ) → ℕ → List X → ℕ → ℕ → Type 0
Rest holds size first xs i at = break_of holds (laid size at (before xs i) (drop i xs)) ≡ break_of holds (laid size first None xs)

pub rest_start : {X : Type 0} (holds : Placed X → Bool) (size : X → ℕ) (first : ℕ) (xs : List X) → Rest holds size first xs 0 first
unfolding Rest before
rest_start holds size first xs = refl

-- one item and what is laid behind it
split : {X : Type 0} (size : X → ℕ) (at : ℕ) (last : Option X) (xs : List X) (i : ℕ) (x : X) → i < length xs → x ≡ get_or xs i x
    → laid size at last (drop i xs) ≡ record { value = x; last = last; next = slice_get (drop (suc i) xs) 0; at = at } ∷ laid size (at + size x) (Some x)
    (drop (suc i) xs)
unfolding laid
split size at last [] i x lt e = absurd (omega arith)
split size at last (y ∷ xs) zero x lt e = ap (λ z. record { value = z; last = last; next = slice_get xs 0; at = at } ∷ laid size (at + size z) (Some z) xs)
    (sym e)
split size at last (y ∷ xs) (suc i) x lt e = split size at last xs i x (omega arith) e

found : {X : Type 0} (holds : Placed X → Bool) (i : Placed X) (items : List (Placed X)) → holds i ≡ false → break_of holds (i ∷ items) ≡ Some i.at
unfolding break_of
found holds i items e = ap (λ (b : Bool). option_map place_of_item (cond (not b) (Some i) (find (λ j. not (holds j)) items))) e

passed : {X : Type 0} (holds : Placed X → Bool) (i : Placed X) (items : List (Placed X)) → holds i ≡ true → break_of holds (i ∷ items) ≡ break_of holds items
unfolding break_of
passed holds i items e = ap (λ (b : Bool). option_map place_of_item (cond (not b) (Some i) (find (λ j. not (holds j)) items))) e

nothing_left : {X : Type 0} (xs : List X) (i : ℕ) → length xs ≤ i → drop i xs ≡ []
nothing_left [] zero le = refl
nothing_left [] (suc i) le = refl
nothing_left (x ∷ xs) zero le = absurd (omega arith)
nothing_left (x ∷ xs) (suc i) le = nothing_left xs i (omega arith)

pub rest_on : {X : Type 0} (holds : Placed X → Bool) (size : X → ℕ) (first : ℕ) (xs : List X) (i at next : ℕ) (x : X) → i < length xs → x ≡ get_or xs i x
    → next ≡ at + size x
    → holds (record { value = x; last = before xs i; next = slice_get (drop (suc i) xs) 0; at = at }) ≡ true → Rest holds size first xs i at
    → Rest holds size first xs (i + 1) next
unfolding Rest
rest_on holds size first xs i at next x lt e sum keeps h =
    let one : i + 1 ≡ suc i = omega arith in
    ap (λ (n : ℕ). break_of holds (laid size n (before xs (i + 1)) (drop (i + 1) xs))) sum
    ∙ ap (λ (l : Option _). break_of holds (laid size (at + size x) l (drop (i + 1) xs))) (before_on xs i x lt e)
    ∙ ap (λ (n : ℕ). break_of holds (laid size (at + size x) (Some x) (drop n xs))) one
    ∙ sym (passed holds (record { value = x; last = before xs i; next = slice_get (drop (suc i) xs) 0; at = at })
    (laid size (at + size x) (Some x) (drop (suc i) xs)) keeps)
    ∙ ap (break_of holds) (sym (split size at (before xs i) xs i x lt e)) ∙ h

pub rest_broken : {X : Type 0} (holds : Placed X → Bool) (size : X → ℕ) (first : ℕ) (xs : List X) (i at : ℕ) (x : X) → i < length xs → x ≡ get_or xs i x
    → holds (record { value = x; last = before xs i; next = slice_get (drop (suc i) xs) 0; at = at }) ≡ false → Rest holds size first xs i at
    → Some at ≡ break_of holds (laid size first None xs)
unfolding Rest
rest_broken holds size first xs i at x lt e breaks h =
    sym (found holds (record { value = x; last = before xs i; next = slice_get (drop (suc i) xs) 0; at = at })
    (laid size (at + size x) (Some x) (drop (suc i) xs)) breaks)
    ∙ ap (break_of holds) (sym (split size at (before xs i) xs i x lt e)) ∙ h

pub rest_end : {X : Type 0} (holds : Placed X → Bool) (size : X → ℕ) (first : ℕ) (xs : List X) (i at : ℕ) → length xs ≤ i → Rest holds size first xs i at
    → None ≡ break_of holds (laid size first None xs)
unfolding Rest laid break_of
rest_end holds size first xs i at le h = ap (λ l. break_of holds (laid size at (before xs i) l)) (sym (nothing_left xs i le)) ∙ h

-- ---- items of one size
pub RestOfEven : {X : Type 0} → (Placed X → Bool) → ℕ → ℕ → List X → ℕ → Type 0
RestOfEven holds size first xs i = Rest holds (λ x. size) first xs i (first + size * i)

module _ {X : Type 0} (holds : Placed X → Bool) (size first : ℕ) (xs : List X) where
  pub even_start : RestOfEven holds size first xs 0
  unfolding RestOfEven
  even_start = subst (Rest holds (λ x. size) first xs 0) (let none : first ≡ first + size * 0 = omega arith in none) (rest_start holds (λ x. size) first xs)

  -- item i, and whether it was found to hold
  pub even_on : (i : ℕ) (d : X) (b : Bool) → i < length xs
      → b ≡ holds (record { value = slice_index_or xs i d; last = before xs i; next = slice_get (drop (suc i) xs) 0; at = first + size * i }) → b ≡ true
      → RestOfEven holds size first xs i → RestOfEven holds size first xs (i + 1)
  unfolding RestOfEven
  even_on i d b lt is keeps h =
      let more : size * (i + 1) ≡ size * i + size = ap (λ n. size * n) (add-one i) ∙ mul-suc size i in
      rest_on holds (λ x. size) first xs i (first + size * i) _ (slice_index_or xs i d) lt (get_or_default xs i d (slice_index_or xs i d) lt)
      (omega (arith, more)) (sym is ∙ keeps) h

  pub even_broken : (i at : ℕ) (d : X) (b : Bool) → i < length xs → at ≡ first + size * i
      → b ≡ holds (record { value = slice_index_or xs i d; last = before xs i; next = slice_get (drop (suc i) xs) 0; at = first + size * i }) → b ≡ false
      → RestOfEven holds size first xs i → Some at ≡ break_of holds (laid (λ x. size) first None xs)
  unfolding RestOfEven
  even_broken i at d b lt same is breaks h =
      ap (λ k. Some k) same ∙ rest_broken holds (λ x. size) first xs i (first + size * i) (slice_index_or xs i d) lt
      (get_or_default xs i d (slice_index_or xs i d) lt) (sym is ∙ breaks) h

  pub even_end : (i : ℕ) → length xs ≤ i → RestOfEven holds size first xs i → None ≡ break_of holds (laid (λ x. size) first None xs)
  unfolding RestOfEven
  even_end i le h = rest_end holds (λ x. size) first xs i (first + size * i) le h

-- ---- all items
pub break_cons : {X : Type 0} (holds : Placed X → Bool) (i : Placed X) (items : List (Placed X))
    → break_of holds (i ∷ items) ≡ cond (holds i) (break_of holds items) (Some i.at)
unfolding break_of
break_cons holds i items = step (holds i) i (find (λ j. not (holds j)) items)
  where
    step : {X : Type 0} (b : Bool) (i : Placed X) (o : Option (Placed X))
        → option_map place_of_item (cond (not b) (Some i) o) ≡ cond b (option_map place_of_item o) (Some i.at)
    step true i o = refl
    step false i o = refl

found_none : {X : Type 0} (b : Bool) (i : Placed X) (o : Option (Placed X)) → option_map place_of_item (cond (not b) (Some i) o) ≡ None
    → (b ≡ true) × (option_map place_of_item o ≡ None)
found_none true i o e = (refl, e)
found_none false i o e = absurd cc

pub all_hold : {X : Type 0} (holds : Placed X → Bool) (items : List (Placed X)) → break_of holds items ≡ None → list_all holds items ≡ true
unfolding break_of
all_hold holds [] e = refl
all_hold holds (i ∷ items) e =
    let p = found_none (holds i) i (find (λ i. not (holds i)) items) e in
    and_from (holds i) (list_all holds items) p.0 (all_hold holds items p.1)

-- of a test that doesn't ask where an item lies
pub held_anywhere : {X : Type 0} (holds : Option X → X → Bool) (size other : X → ℕ) (at there : ℕ) (last : Option X) (xs : List X)
    → list_all (λ i. holds i.last i.value) (laid size at last xs) ≡ list_all (λ i. holds i.last i.value) (laid other there last xs)
unfolding laid
held_anywhere holds size other at there last [] = refl
held_anywhere holds size other at there last (x ∷ xs) =
    ap (λ (b : Bool). holds last x && b) (held_anywhere holds size other (at + size x) (there + other x) (Some x) xs)
