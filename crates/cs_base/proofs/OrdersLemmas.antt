-- The orders are total, and tie only at equals; rows in order; the order of posts, field by field; the order of numbers.
use Rattle.std.proofs.Common.{◌≡◌, ℕ, ◌<◌, true, true≢false, List, [], ◌∷◌, ap, refl, sym, arith}
use Rattle.std.specs.Prelude.{◌⊎◌}
use Rattle.std.proofs.lemmas.Bool.Decides.{nat_tests}
use Rattle.std.specs.List.Sorted.{IsStrictlySortedBy}
use Rattle.std.specs.declared.cmp.Ordering.{Ordering}
use Rattle.std.specs.declared.cmp.Ordering.TheVariants.{Less, Equal, Greater}
use Rattle.std.specs.Cmp.{IsTotalOrder, nat_cmp_is}
use Rattle.std.specs.Ordering.{nat_cmp, flip_args, is_eq, is_lt, ordering_then}
use Rattle.std.specs.Cmp.Lexicographic.{slice_cmp}
use Rattle.std.specs.FinMap.{IsAntisymmetric}
use Rattle.std.proofs.lemmas.Cmp.{then_total, on_total, back_total, nat_cmp_total, nat_list_cmp_total, ranked}
use Rattle.std.proofs.lemmas.Map.Lookups.{exact_pairs, exact_unsigned, exact_bytes}
use Rattle.cs_base.specs.declared.content.doc.Post.{Post}
use Rattle.cs_base.specs.declared.content.doc.Row.{Row}
use Rattle.cs_base.specs.declared.content.doc.Scored.{Scored}
use Rattle.cs_base.specs.content.Orders.{by_row, by_spot, by_place, by_rank}
use Rattle.cs_base.proofs.MembersLemmas.{all_then}

pub by_row_total : IsTotalOrder by_row
by_row_total = then_total (on_total (λ r. r.doc) nat_cmp_total) (then_total (on_total (λ r. r.pos) nat_cmp_total) (then_total (on_total (λ r. r.word) nat_list_cmp_total) (on_total (λ r. r.score) nat_cmp_total)))

pub by_row_exact : IsAntisymmetric by_row
by_row_exact a b h =
    let words = exact_pairs (slice_cmp nat_cmp) nat_cmp exact_bytes exact_unsigned in
    let places = exact_pairs nat_cmp _ exact_unsigned words in
    ap (λ (p : ℕ × (ℕ × (List ℕ × ℕ))). let r : Row = record { doc = p.0; pos = p.1.0; word = p.1.1.0; score = p.1.1.1 } in r)
    (exact_pairs nat_cmp _ exact_unsigned places (a.doc, (a.pos, (a.word, a.score))) (b.doc, (b.pos, (b.word, b.score))) h)

pub by_place_total : IsTotalOrder by_place
by_place_total = then_total (on_total (λ p. p.doc) nat_cmp_total) (then_total (on_total (λ p. p.pos) nat_cmp_total) (on_total (λ p. p.word) nat_cmp_total))

pub by_rank_total : IsTotalOrder by_rank
by_rank_total = then_total (on_total (λ h. h.score) (back_total nat_cmp_total)) (on_total (λ h. h.doc) nat_cmp_total)

pub by_rank_exact : IsAntisymmetric by_rank
by_rank_exact a b h =
    ap (λ (p : ℕ × ℕ). let s : Scored = record { doc = p.1; score = p.0 } in s)
    (exact_pairs (flip_args nat_cmp) nat_cmp (λ x y e. sym (exact_unsigned y x e)) exact_unsigned (a.score, a.doc) (b.score, b.doc) h)

-- ---- rows

-- a further order decides nothing that is decided
decided : (a b o e : Ordering) → ordering_then a (ordering_then b o) ≡ Less → ordering_then a (ordering_then b (ordering_then o e)) ≡ Less
decided Less b o e h = refl
decided Greater b o e h = h
decided Equal Less o e h = refl
decided Equal Greater o e h = h
decided Equal Equal Less e h = refl
decided Equal Equal Greater e h = h
decided Equal Equal Equal e h = absurd (true≢false (ap is_eq h))

row-from_spot : (r s : Row) → by_spot r s ≡ Less → by_row r s ≡ Less
row-from_spot r s h = decided (nat_cmp r.doc s.doc) (nat_cmp r.pos s.pos) (slice_cmp nat_cmp r.word s.word) (nat_cmp r.score s.score) h

-- rows in order by document, position and word are in order by all four
pub rows_up : (rows : List Row) → IsStrictlySortedBy by_spot rows → IsStrictlySortedBy by_row rows
unfolding IsStrictlySortedBy
rows_up [] h = tt
rows_up (r ∷ rows) h = (all_then (λ s. by_spot r s ≡ Less) (λ s. by_row r s ≡ Less) (row-from_spot r) rows h.0, rows_up rows h.1)

-- ---- posts, field by field

-- x comes before y
abbrev pub Comes : Post → Post → Type 0
Comes x y = (x.doc < y.doc) ⊎ ((x.doc ≡ y.doc) × ((x.pos < y.pos) ⊎ ((x.pos ≡ y.pos) × (x.word < y.word))))

pub comes_first : (x y : Post) → by_place x y ≡ Less → Comes x y
comes_first x y h = grind (arith, nat_tests)

pub less-from_comes : (x y : Post) → Comes x y → by_place x y ≡ Less
less-from_comes x y h = grind (arith, nat_tests)

pub comes-from_lt : (x y : Post) → is_lt (by_place x y) ≡ true → Comes x y
comes-from_lt x y h = grind (arith, nat_tests)

pub less-from_test : (x y : Post) → is_lt (by_place x y) ≡ true → by_place x y ≡ Less
less-from_test x y h = less-from_comes x y (comes-from_lt x y h)

-- ---- numbers

pub Less-from_lt : (x y : ℕ) → x < y → nat_cmp x y ≡ Less
Less-from_lt x y h = sym (nat_cmp_is x y Less h)

pub lt-from_Less : (x y : ℕ) → nat_cmp x y ≡ Less → x < y
lt-from_Less x y h = ranked x y Less (sym h)
