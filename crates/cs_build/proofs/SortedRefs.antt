-- References to values, sorted by the values and without repeats, are the values' listing.
use Rattle.std.proofs.Common.{◌≡◌, ◌+◌, ◌<◌, Bool, true, false, cond, ◌||◌, List, [], ◌∷◌, length, map, get_or, refl, sym, ap, ◌∙◌, arith}
use Rattle.std.specs.List.{list_any, dedup, dedup_from}
use Rattle.std.specs.List.Retain.{IsFiltered, DiffersFromLast}
use Rattle.std.specs.List.Sorted.{IsSorted, IsPermutation}
use Rattle.std.specs.Ordering.{eq_by_cmp, is_lt}
use Rattle.std.specs.declared.cmp.Ordering.{Ordering}
use Rattle.std.specs.Cmp.{IsTotalOrder}
use Rattle.std.specs.FinMap.{IsAntisymmetric}
use Rattle.std.proofs.lemmas.List.{length-map, get_or-map}
use Rattle.std.proofs.lemmas.List.Kept.{IsStrictlySortedBy-dedup}
use Rattle.std.proofs.lemmas.List.Filters.{dedup_is}
use Rattle.std.proofs.lemmas.List.Sorted.{list_any-IsPermutation}
use Rattle.cs_base.specs.content.Members.{members_in}
use Rattle.cs_base.proofs.MembersLemmas.{members_are, any_dedup}

module _ {X Y : Type 0} (v : X → Y) where
  pub any-map : (p : Y → Bool) (xs : List X) → list_any p (map v xs) ≡ list_any (λ x. p (v x)) xs
  any-map p [] = refl
  any-map p (x ∷ xs) = ap (λ b. p (v x) || b) (any-map p xs)

  dedup_from-map : (E : Y → Y → Bool) (k : X) (xs : List X) → map v (dedup_from (λ x y. E (v x) (v y)) k xs) ≡ dedup_from E (v k) (map v xs)
  dedup_from-map E k [] = refl
  dedup_from-map E k (x ∷ xs) =
      elim (E (v x) (v k)) as (λ b. map v (cond b (dedup_from (λ x y. E (v x) (v y)) k xs) (k ∷ dedup_from (λ x y. E (v x) (v y)) x xs)) ≡ cond b (dedup_from E (v k) (map v xs)) (v k ∷ dedup_from E (v x) (map v xs))) [
        | true ↦ dedup_from-map E k xs
        | false ↦ ap (λ l. v k ∷ l) (dedup_from-map E x xs)
      ]

  dedup-map : (E : Y → Y → Bool) (xs : List X) → map v (dedup (λ x y. E (v x) (v y)) xs) ≡ dedup E (map v xs)
  dedup-map E [] = refl
  dedup-map E (x ∷ xs) = dedup_from-map E x xs

  sorted-map : (R : Y → Y → Ordering) (xs : List X) → IsSorted (λ x y. R (v x) (v y)) xs → IsSorted R (map v xs)
  sorted-map R [] h = λ k d l m. absurd (omega arith)
  sorted-map R (x ∷ xs) h = λ k d l m.
      let far : k + 1 < length (x ∷ xs) = omega (arith, m, length-map (x ∷ xs) v) in
      ap (λ a. is_lt (R a (get_or (map v (x ∷ xs)) k d))) (get_or-map v (x ∷ xs) (k + 1) x d far)
      ∙ ap (λ b. is_lt (R (v (get_or (x ∷ xs) (k + 1) x)) b)) (get_or-map v (x ∷ xs) k x d (omega (arith, far)))
      ∙ h k x l far

  module _ {R : Y → Y → Ordering} (o : IsTotalOrder R) (exact : IsAntisymmetric R) (E : Y → Y → Bool) (ties : (a b : Y) → E a b ≡ eq_by_cmp R a b) where
    -- xs are sorted into ys, and zs are left of these
    pub listed_refs : (xs ys zs : List X) → IsPermutation xs ys → IsSorted (λ x y. R (v x) (v y)) ys → IsFiltered (DiffersFromLast (λ x y. E (v x) (v y))) [] ys zs → map v zs ≡ members_in R (map v xs)
    listed_refs xs ys zs moved up kept =
        let once : map v zs ≡ dedup E (map v ys) = ap (map v) (dedup_is (λ x y. E (v x) (v y)) ys zs kept) ∙ dedup-map E ys in
        once
        ∙ members_are R o exact (dedup E (map v ys)) (map v xs) (IsStrictlySortedBy-dedup o ties (map v ys) (sorted-map R ys up))
        (λ q. any_dedup o exact E ties q (map v ys) ∙ any-map (eq_by_cmp R q) ys ∙ sym (list_any-IsPermutation (λ x. eq_by_cmp R q (v x)) xs ys moved) ∙ sym (any-map (eq_by_cmp R q) xs))
