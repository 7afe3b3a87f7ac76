-- A listing has the members of its list: what holds of the ones holds of the others.
--
--   same_tests      tests that follow from each other are one
--   all_both        what holds of each of two lists holds of each of both
--   both_all        what follows of two facts, for each of a list
--   each_listed     what holds of each of a listing holds of each of the list
--   listed_each     and the other way round
--   any_listed      some of a listing passes a test exactly where some of the list does
--   listed_few      a listing isn't longer than the list
--   filter_members  those of a listing that pass a test are the listing of those of the list
use Rattle.std.proofs.Common.{◌≡◌, ℕ, ◌+◌, ◌≤◌, Bool, true, false, ◌&&◌, ◌||◌, true≢false, cond, List, [], ◌∷◌, ◌++◌, length, map, refl, sym, ap, subst, ◌∙◌, arith}
use Rattle.std.specs.Prelude.{filter}
use Rattle.std.specs.List.{AllByRecursion, list_any}
use Rattle.std.specs.Ordering.{eq_by_cmp, is_eq}
use Rattle.std.specs.declared.cmp.Ordering.{Ordering}
use Rattle.std.specs.Cmp.{IsTotalOrder, Equal-is}
use Rattle.std.proofs.lemmas.Cmp.{tied_itself}
use Rattle.std.specs.FinMap.{FinMap, IsAntisymmetric, contains_key, entries, from_entries, len, len-empty, len-entries, len-insert}
use Rattle.std.proofs.lemmas.Bool.{or_left, or_right}
use Rattle.std.proofs.lemmas.List.{length-map}
use Rattle.std.proofs.lemmas.List.Kept.{IsStrictlySortedBy-filter}
use Rattle.cs_base.specs.content.Members.{marked, members_in}
use Rattle.cs_base.proofs.MembersLemmas.{is_member-listed, listing-rises, members_are}

pub same_tests : (a b : Bool) → (a ≡ true → b ≡ true) → (b ≡ true → a ≡ true) → a ≡ b
same_tests true b h k = sym (h refl)
same_tests false true h k = k refl
same_tests false false h k = refl

pub all_both : {X : Type 0} (P : X → Type 0) (xs ys : List X) → AllByRecursion P xs → AllByRecursion P ys → AllByRecursion P (xs ++ ys)
all_both P [] ys h k = k
all_both P (x ∷ xs) ys h k = (h.0, all_both P xs ys h.1 k)

pub both_all : {X : Type 0} (P Q S : X → Type 0) → ((x : X) → P x → Q x → S x) → (xs : List X) → AllByRecursion P xs → AllByRecursion Q xs → AllByRecursion S xs
both_all P Q S f [] h k = tt
both_all P Q S f (x ∷ xs) h k = (f x h.0 k.0, both_all P Q S f xs h.1 k.1)

filtered_at : {X : Type 0} (t : X → Bool) (b : Bool) (x : X) (f : List X) → list_any t (cond b (x ∷ f) f) ≡ ((b && t x) || list_any t f)
filtered_at t true x f = refl
filtered_at t false x f = refl

any_filter : {X : Type 0} (p t : X → Bool) (xs : List X) → list_any t (filter p xs) ≡ list_any (λ x. p x && t x) xs
any_filter p t [] = refl
any_filter p t (x ∷ xs) = filtered_at t (p x) x (filter p xs) ∙ ap (λ b. (p x && t x) || b) (any_filter p t xs)

module _ {X : Type 0} (R : X → X → Ordering) (o : IsTotalOrder R) (exact : IsAntisymmetric R) where
  one_at : (P : X → Type 0) (q x : X) (b rest : Bool) → eq_by_cmp R q x ≡ b → P x → (b || rest) ≡ true → (rest ≡ true → P q) → P q
  one_at P q x true rest e p h more = subst P (sym (exact q x ((Equal-is (R q x)).0 e))) p
  one_at P q x false rest e p h more = more h

  one_of : (P : X → Type 0) (xs : List X) → AllByRecursion P xs → (q : X) → list_any (eq_by_cmp R q) xs ≡ true → P q
  one_of P [] h q e = absurd (true≢false (sym e))
  one_of P (x ∷ xs) h q e = one_at P q x (eq_by_cmp R q x) (list_any (eq_by_cmp R q) xs) refl h.0 e (one_of P xs h.1 q)

  each_of : (P : X → Type 0) (xs : List X) → ((q : X) → list_any (eq_by_cmp R q) xs ≡ true → P q) → AllByRecursion P xs
  each_of P [] h = tt
  each_of P (x ∷ xs) h = (h x (or_left _ _ (ap is_eq (tied_itself o x))), each_of P xs (λ q e. h q (or_right (eq_by_cmp R q x) _ e)))

  pub each_listed : (P : X → Type 0) (xs : List X) → AllByRecursion P (members_in R xs) → AllByRecursion P xs
  each_listed P xs h = each_of P xs (λ q e. one_of P (members_in R xs) h q (is_member-listed R o xs q ∙ e))

  pub listed_each : (P : X → Type 0) (xs : List X) → AllByRecursion P xs → AllByRecursion P (members_in R xs)
  listed_each P xs h = each_of P (members_in R xs) (λ q e. one_of P xs h q (sym (is_member-listed R o xs q) ∙ e))

  found_in : (p : X → Bool) (xs : List X) → AllByRecursion (λ x. p x ≡ true → list_any p xs ≡ true) xs
  found_in p [] = tt
  found_in p (x ∷ xs) = (λ e. or_left (p x) (list_any p xs) e, later xs (found_in p xs))
    where
      later : (ys : List X) → AllByRecursion (λ y. p y ≡ true → list_any p xs ≡ true) ys → AllByRecursion (λ y. p y ≡ true → (p x || list_any p xs) ≡ true) ys
      later [] h = tt
      later (y ∷ ys) h = (λ e. or_right (p x) (list_any p xs) (h.0 e), later ys h.1)

  through_at : (t rest b : Bool) → (t ≡ true → b ≡ true) → (t || rest) ≡ true → (rest ≡ true → b ≡ true) → b ≡ true
  through_at true rest b here e more = here refl
  through_at false rest b here e more = more e

  through : (p : X → Bool) (b : Bool) (xs : List X) → AllByRecursion (λ x. p x ≡ true → b ≡ true) xs → list_any p xs ≡ true → b ≡ true
  through p b [] h e = absurd (true≢false (sym e))
  through p b (x ∷ xs) h e = through_at (p x) (list_any p xs) b h.0 e (through p b xs h.1)

  pub any_listed : (p : X → Bool) (xs : List X) → list_any p (members_in R xs) ≡ list_any p xs
  any_listed p xs =
      same_tests (list_any p (members_in R xs)) (list_any p xs)
      (through p (list_any p xs) (members_in R xs) (listed_each (λ x. p x ≡ true → list_any p xs ≡ true) xs (found_in p xs)))
      (through p (list_any p (members_in R xs)) xs (each_listed (λ x. p x ≡ true → list_any p (members_in R xs) ≡ true) xs (found_in p (members_in R xs))))

  one_more : (b : Bool) (n m : ℕ) → n ≤ m → cond b n (n + 1) ≤ m + 1
  one_more true n m h = omega (arith, h)
  one_more false n m h = omega (arith, h)

  keys_few : (xs : List X) → len (from_entries {R = R} (map marked xs)) ≤ length xs
  keys_few [] = omega (arith, len-empty R (Unit {0}))
  keys_few (x ∷ xs) =
      let m : FinMap R (Unit {0}) = from_entries {R = R} (map marked xs) in
      omega (arith, len-insert o m x tt, one_more (contains_key m x) (len m) (length xs) (keys_few xs))

  pub listed_few : (xs : List X) → length (members_in R xs) ≤ length xs
  listed_few xs =
      let m : FinMap R (Unit {0}) = from_entries {R = R} (map marked xs) in
      omega (arith, length-map (entries m) (λ e. e.0), len-entries m, keys_few xs)

  pub filter_members : (p : X → Bool) (xs : List X) → filter p (members_in R xs) ≡ members_in R (filter p xs)
  filter_members p xs =
      members_are R o exact (filter p (members_in R xs)) (filter p xs) (IsStrictlySortedBy-filter R p (members_in R xs) (listing-rises R xs))
      (λ q. any_filter p (eq_by_cmp R q) (members_in R xs) ∙ any_listed (λ x. p x && eq_by_cmp R q x) xs ∙ sym (any_filter p (eq_by_cmp R q) xs))
