-- The documents of sorted posts.
use Rattle.std.proofs.Common.{◌≡◌, ℕ, ◌+◌, ◌≤◌, ◌||◌, false, List, [], ◌∷◌, get_or, refl, ap, arith}
use Rattle.std.specs.Prelude.{◌==◌, map, nat_eq}
use Rattle.std.specs.Ordering.{nat_cmp, eq_by_cmp, is_lt}
use Rattle.std.specs.List.{list_any}
use Rattle.std.specs.List.Sorted.{IsSorted, IsNonDecreasing}
use Rattle.std.proofs.lemmas.List.{length-map, get_or-map}
use Rattle.std.proofs.lemmas.Bool.Decides.{nat_tests}
use Rattle.cs_base.specs.declared.content.doc.Post.{Post}
use Rattle.cs_base.specs.declared.content.doc.Scored.{Scored}
use Rattle.cs_base.specs.content.Orders.{AreSorted}
use Rattle.cs_meet.specs.Filters.{is_of}
use Rattle.cs_meet.proofs.Passes.{IsUpTo}
use Rattle.cs_meet.proofs.Judged.{in_turn}

pub nat_ties : (x y : ℕ) → nat_eq x y ≡ eq_by_cmp nat_cmp x y
nat_ties x y = grind (arith, nat_tests)

doc_up_to : (x y : Post) → IsUpTo x.doc x.pos y.doc y.pos → x.doc ≤ y.doc
doc_up_to x y up = grind (arith, nat_tests)

not_less : (x y : ℕ) → x ≤ y → is_lt (nat_cmp y x) ≡ false
not_less x y up = grind (arith, nat_tests)

-- no document is less than one before
pub docs_dont_fall : (rows : List Post) → AreSorted rows → IsNonDecreasing (map (λ r. r.doc) rows)
docs_dont_fall rows up i j d from below =
    let blank : Post = record { doc = 0; word = 0; pos = 0; score = 0 } in
    let long = length-map rows (λ r. r.doc) in
    let x = get_or rows i blank in
    let y = get_or rows j blank in
    let at_x : get_or (map (λ (r : Post). r.doc) rows) i d ≡ x.doc = get_or-map (λ r. r.doc) rows i blank d (omega (arith, long)) in
    let at_y : get_or (map (λ (r : Post). r.doc) rows) j d ≡ y.doc = get_or-map (λ r. r.doc) rows j blank d (omega (arith, long)) in
    let rises : x.doc ≤ y.doc = doc_up_to x y (in_turn rows i j blank up from (omega (arith, long))) in
    omega (arith, at_x, at_y, rises)

-- and so they are in order
pub docs_sorted : (rows : List Post) → AreSorted rows → IsSorted nat_cmp (map (λ r. r.doc) rows)
docs_sorted rows up k d from below =
    not_less _ _ (docs_dont_fall rows up k (k + 1) d (omega arith) below)

-- a document has a row where it is one of the rows' documents
pub doc_has_row : (h : Scored) (rows : List Post) → list_any (λ d. d == h.doc) (map (λ r. r.doc) rows) ≡ list_any (is_of h) rows
doc_has_row h [] = refl
doc_has_row h (r ∷ rows) = ap (λ t. (r.doc == h.doc) || t) (doc_has_row h rows)
