-- Numbers that never fall, and each of them once.
--
--   Climbs xs              no number is less than one before it
--   fresh l xs             those that differ from the one before them, the first from l
--   fresh-listed           of numbers that climb these are the listing
--   docs_climb             the documents of sorted rows climb
use Rattle.std.proofs.Common.{◌≡◌, ℕ, ◌<◌, ◌≤◌, true, false, ◌||◌, List, [], ◌∷◌, map, ◌==◌, refl, sym, ◌∙◌, ap, arith, if◌then◌else◌}
use Rattle.std.specs.List.{AllByRecursion, list_any}
use Rattle.std.specs.List.Sorted.{IsStrictlySortedBy}
use Rattle.std.specs.Ordering.{nat_cmp, eq_by_cmp}
use Rattle.std.specs.declared.cmp.Ordering.TheVariants.{Less}
use Rattle.std.specs.FinMap.{nat_cmp-IsAntisymmetric}
use Rattle.std.specs.Cmp.{nat_cmp_total}
use Rattle.std.proofs.lemmas.Bool.{eqb-true}
use Rattle.std.proofs.lemmas.Bool.Decides.{nat_tests}
use Rattle.cs_base.specs.content.Members.{members_in}
use Rattle.cs_base.specs.content.Orders.{by_place, AreSorted}
use Rattle.cs_base.specs.declared.content.doc.Post.{Post}
use Rattle.cs_base.proofs.MembersLemmas.{members_are, all_then, again}
use Rattle.cs_base.proofs.OrdersLemmas.{Less-from_lt}

abbrev pub Climbs : List ℕ → Type 0
Climbs [] = Unit {0}
Climbs (x ∷ xs) = AllByRecursion (λ y. x ≤ y) xs × Climbs xs

abbrev pub fresh : ℕ → List ℕ → List ℕ
fresh l [] = []
fresh l (x ∷ xs) = if x == l then fresh l xs else x ∷ fresh x xs

-- what is below the first is below all that the first is below
pub further : (l x : ℕ) (xs : List ℕ) → l < x → AllByRecursion (λ y. nat_cmp x y ≡ Less) xs → AllByRecursion (λ y. nat_cmp l y ≡ Less) xs
further l x xs lt h = all_then (λ y. nat_cmp x y ≡ Less) (λ y. nat_cmp l y ≡ Less) (λ y up. nat_cmp_total.trans l x y (Less-from_lt l x lt) up) xs h

pub fresh-rises : (l : ℕ) (xs : List ℕ) → Climbs (l ∷ xs) → IsStrictlySortedBy nat_cmp (l ∷ fresh l xs)
unfolding IsStrictlySortedBy
fresh-rises l [] h = (tt, tt)
fresh-rises l (x ∷ xs) h =
    elim (x == l) as (λ b. x == l ≡ b → IsStrictlySortedBy nat_cmp (l ∷ (if b then fresh l xs else x ∷ fresh x xs))) [
      | true ↦ λ e. fresh-rises l xs (h.0.1, h.1.1)
      | false ↦ λ e.
          let on = fresh-rises x xs h.1 in
          let lt : l < x = (let up = h.0.0 in grind (arith, nat_tests)) in
          ((Less-from_lt l x lt, further l x (fresh x xs) lt on.0), on)
    ] refl

pub fresh-alike : (q l : ℕ) (xs : List ℕ) → list_any (eq_by_cmp nat_cmp q) (l ∷ fresh l xs) ≡ list_any (eq_by_cmp nat_cmp q) (l ∷ xs)
fresh-alike q l [] = refl
fresh-alike q l (x ∷ xs) =
    elim (x == l) as (λ b. x == l ≡ b → list_any (eq_by_cmp nat_cmp q) (l ∷ (if b then fresh l xs else x ∷ fresh x xs)) ≡ list_any (eq_by_cmp nat_cmp q) (l ∷ x ∷ xs)) [
      | true ↦ λ e. fresh-alike q l xs ∙ sym (ap (λ z. eq_by_cmp nat_cmp q l || (eq_by_cmp nat_cmp q z || list_any (eq_by_cmp nat_cmp q) xs)) (eqb-true x l e) ∙ sym (again (eq_by_cmp nat_cmp q l) _))
      | false ↦ λ e. ap (λ b. eq_by_cmp nat_cmp q l || b) (fresh-alike q x xs)
    ] refl

pub fresh-listed : (l : ℕ) (xs : List ℕ) → Climbs (l ∷ xs) → l ∷ fresh l xs ≡ members_in nat_cmp (l ∷ xs)
fresh-listed l xs h = members_are nat_cmp nat_cmp_total nat_cmp-IsAntisymmetric (l ∷ fresh l xs) (l ∷ xs) (fresh-rises l xs h) (λ q. fresh-alike q l xs)

place_up : (a b : Post) → by_place a b ≡ Less → a.doc ≤ b.doc
place_up a b h = grind (arith, nat_tests)

all_up : (a : Post) (rows : List Post) → AllByRecursion (λ b. by_place a b ≡ Less) rows → AllByRecursion (λ d. a.doc ≤ d) (map (λ p. p.doc) rows)
all_up a [] h = tt
all_up a (b ∷ rows) h = (place_up a b h.0, all_up a rows h.1)

pub docs_climb : (rows : List Post) → AreSorted rows → Climbs (map (λ p. p.doc) rows)
unfolding IsStrictlySortedBy
docs_climb [] h = tt
docs_climb (a ∷ rows) h = (all_up a rows h.0, docs_climb rows h.1)
