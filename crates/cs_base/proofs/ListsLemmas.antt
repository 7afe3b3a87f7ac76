-- Lists: filters, maps, members and numbers.
--
--   all_of               what holds of each value holds of all of a list
--   map_alike            functions that agree on a list map it alike
--   filter_alike         tests that agree on a list filter it alike
--   filter_twice         two filters are one
--   filter_through       a filter of what a function gives is one of what it is given
--   any_through          so is whether some passes
--   all_stay             a test that all pass keeps all
--   same_number, itself, number_tie, any_tie     tests of numbers
--   own_members          each number of a list is a member of it
--   take_init            a list without its last entry
--   last_entry           a list that isn't empty has a last entry
use Rattle.std.proofs.Common.{◌≡◌, ℕ, ◌-◌, ◌==◌, ◌&&◌, ◌||◌, Bool, true, false, List, [], ◌∷◌, ◌++◌, cond, length, map, take, get_or, refl, ◌∙◌, ap, arith, length-append}
use Rattle.std.specs.Prelude.{filter}
use Rattle.std.specs.List.{All, AllByRecursion, list_any}
use Rattle.std.specs.Ordering.{nat_cmp, eq_by_cmp}
use Rattle.std.proofs.Math.Seq.{take-append_seam}
use Rattle.std.proofs.lemmas.Bool.Decides.{nat_tests}
use Rattle.std.proofs.lemmas.List.Folds.{list_any_at}

pub all_of : {X : Type 0} (P : X → Type 0) → ((x : X) → P x) → (xs : List X) → AllByRecursion P xs
all_of P h [] = tt
all_of P h (x ∷ xs) = (h x, all_of P h xs)

pub map_alike : {X Y : Type 0} (f g : X → Y) (xs : List X) → AllByRecursion (λ x. f x ≡ g x) xs → map f xs ≡ map g xs
map_alike f g [] h = refl
map_alike f g (x ∷ xs) h = ap (λ y. y ∷ map f xs) h.0 ∙ ap (λ ys. g x ∷ ys) (map_alike f g xs h.1)

pub filter_alike : {X : Type 0} (p q : X → Bool) (xs : List X) → AllByRecursion (λ x. p x ≡ q x) xs → filter p xs ≡ filter q xs
filter_alike p q [] h = refl
filter_alike p q (x ∷ xs) h = ap (λ b. cond b (x ∷ filter p xs) (filter p xs)) h.0 ∙ ap (λ l. cond (q x) (x ∷ l) l) (filter_alike p q xs h.1)

pub filter_twice : {X : Type 0} (p q : X → Bool) (xs : List X) → filter (λ x. p x && q x) xs ≡ filter q (filter p xs)
filter_twice p q [] = refl
filter_twice p q (x ∷ xs) =
    elim (p x) as (λ b. cond (b && q x) (x ∷ filter (λ x. p x && q x) xs) (filter (λ x. p x && q x) xs) ≡ filter q (cond b (x ∷ filter p xs) (filter p xs))) [
      | true ↦ ap (λ l. cond (q x) (x ∷ l) l) (filter_twice p q xs)
      | false ↦ filter_twice p q xs
    ]

module _ {X Y : Type 0} (f : X → Y) where
  pub filter_through : (p : Y → Bool) (xs : List X) → map f (filter (λ x. p (f x)) xs) ≡ filter p (map f xs)
  filter_through p [] = refl
  filter_through p (x ∷ xs) =
      elim (p (f x)) as (λ b. map f (cond b (x ∷ filter (λ x. p (f x)) xs) (filter (λ x. p (f x)) xs)) ≡ cond b (f x ∷ filter p (map f xs)) (filter p (map f xs))) [
        | true ↦ ap (λ l. f x ∷ l) (filter_through p xs)
        | false ↦ filter_through p xs
      ]

  pub any_through : (p : Y → Bool) (xs : List X) → list_any p (map f xs) ≡ list_any (λ x. p (f x)) xs
  any_through p [] = refl
  any_through p (x ∷ xs) = ap (λ b. p (f x) || b) (any_through p xs)

pub all_stay : {X : Type 0} (xs : List X) → filter (λ x. true) xs ≡ xs
all_stay [] = refl
all_stay (x ∷ xs) = ap (λ l. x ∷ l) (all_stay xs)

pub and_true : (b : Bool) → (b && true) ≡ b
and_true true = refl
and_true false = refl

pub same_number : (x y : ℕ) → (x == y) ≡ true → x ≡ y
same_number x y h = grind (arith, nat_tests)

pub itself : (x : ℕ) → (x == x) ≡ true
itself x = grind (arith, nat_tests)

pub number_tie : (q x : ℕ) → eq_by_cmp nat_cmp q x ≡ (x == q)
number_tie q x = grind (arith, nat_tests)

pub any_tie : (q : ℕ) (ds : List ℕ) → list_any (eq_by_cmp nat_cmp q) ds ≡ list_any (λ e. e == q) ds
any_tie q [] = refl
any_tie q (d ∷ ds) = ap (λ b. b || list_any (eq_by_cmp nat_cmp q) ds) (number_tie q d) ∙ ap (λ b. (d == q) || b) (any_tie q ds)

pub own_members : (ds : List ℕ) → All (λ d. list_any (λ e. e == d) ds ≡ true) ds
own_members ds k d l = list_any_at (λ e. e == get_or ds k d) ds k d l (itself (get_or ds k d))

pub take_init : {X : Type 0} (xs : List X) (x : X) → take (length (xs ++ x ∷ []) - 1) (xs ++ x ∷ []) ≡ xs
take_init xs x =
    let n : length (xs ++ x ∷ []) - 1 ≡ length xs = omega (arith, length-append xs (x ∷ [])) in
    ap (λ m. take m (xs ++ x ∷ [])) n ∙ take-append_seam xs (x ∷ [])

pub last_entry : {X : Type 0} (x : X) (xs : List X) → (init : List X) × (last : X) × (x ∷ xs ≡ init ++ last ∷ [])
last_entry x [] = ([], x, refl)
last_entry x (y ∷ ys) = (let r = last_entry y ys in (x ∷ r.0, r.1, ap (λ l. x ∷ l) r.2))
