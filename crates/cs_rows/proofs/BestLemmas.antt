-- The table of documents: row by row, and the hits that are read off it.
--
--   raised                       one row is noted
--   raised_more, raised_all      rows are noted one after the other
--   raised_where, raised_row, raised_rows     and those that pass a test
--   hits_all                     the hits of the table, all of them added
--   hits_are                     are the documents of the rows with their scores
--   map_same                     functions that agree
--   alike_best                   which depend on the rows' members alone
--   hits_fit                     they are in range
--   own_chosen                   where all words are of some, the rows in listed documents are those that are chosen
use Rattle.std.proofs.Common.{◌≡◌, ℕ, zero, suc, ◌+◌, ◌≤◌, ◌<◌, ◌==◌, ◌&&◌, ◌||◌, Bool, true, false, List, [], ◌∷◌, ◌++◌, map, take, drop, length}
use Rattle.std.proofs.Common.{get_or, cond, refl, sym, ◌∙◌, ap, ap₂, subst, arith, append-nil, length-set}
use Rattle.std.specs.Prelude.{max, nat_lt, nat_le, All, filter, slice_index, slice_set}
use Rattle.std.specs.List.{list_any, range_with_len, AllByRecursion}
use Rattle.std.specs.List.Sorted.{IsStrictlySortedBy}
use Rattle.std.specs.Ordering.{nat_cmp, eq_by_cmp}
use Rattle.std.specs.declared.cmp.Ordering.TheVariants.{Less}
use Rattle.std.specs.Cmp.{nat_cmp_total}
use Rattle.std.specs.FinMap.{nat_cmp-IsAntisymmetric}
use Rattle.std.proofs.Math.Bool.{and-false, and-or_distrib_right, and-true}
use Rattle.std.proofs.lemmas.Bool.{and_from, le-leb, lt-ltb}
use Rattle.std.proofs.lemmas.Bool.Decides.{nat_tests}
use Rattle.std.proofs.lemmas.List.{get_or-set_same, get_or-map, get_or-set_other, get_or_default, length-map, take_all, take_more, append_assoc, drop_all}
use Rattle.std.proofs.lemmas.List.{map-append}
use Rattle.std.proofs.lemmas.List.Elements.{All-from_recursion, filter-append, recursion_from_All}
use Rattle.std.proofs.lemmas.List.Kept.{IsStrictlySortedBy-filter}
use Rattle.cs_base.specs.content.Orders.{AreByDoc, docs_of}
use Rattle.cs_base.specs.declared.content.doc.Base.TheVariants as base
use Rattle.cs_base.specs.declared.content.doc.Post.{Post}
use Rattle.cs_base.specs.declared.content.doc.Scored.{Scored}
use Rattle.cs_base.specs.declared.content.scores.Weights.{Weights}
use Rattle.cs_base.proofs.MembersLemmas.{members_are}
use Rattle.cs_base.proofs.OrdersLemmas.{Less-from_lt}
use Rattle.cs_file.specs.CallAnswers.{AreScoredOf}
use Rattle.cs_rank.specs.DocScores.{greatest, of_doc, best_row}
use Rattle.cs_tables.specs.WordCounts.{is_chosen, is_of_listed}
use Rattle.cs_rows.specs.BestScores.{best_of, HasBestScores, hits_in}
use Rattle.cs_rows.specs.Packing.{post_of_key}
use Rattle.cs_rows.specs.Steps.{IsBaseOf, IsHitOf}
use Rattle.cs_rows.proofs.AlikeLemmas.{any_filter}
use Rattle.cs_rows.proofs.KeysLemmas.{one_more}

any_map : {X Y : Type 0} (t : Y → Bool) (f : X → Y) (xs : List X) → list_any t (map f xs) ≡ list_any (λ x. t (f x)) xs
any_map t f [] = refl
any_map t f (x ∷ xs) = ap (λ b. t (f x) || b) (any_map t f xs)

max_last : (x y g : ℕ) → max x (max g y) ≡ max (max x g) y
max_last x y g = omega arith

greatest_push : (xs : List ℕ) (y : ℕ) → greatest (xs ++ y ∷ []) ≡ max (greatest xs) y
greatest_push [] y = omega arith
greatest_push (x ∷ xs) y = ap (max x) (greatest_push xs y) ∙ max_last x y (greatest xs)

-- what one post gives document d
abbrev given : ℕ → Post → ℕ
given d p = cond (p.doc == d) p.score 0

best_push : (seen : List Post) (p : Post) (d : ℕ) → best_of (seen ++ p ∷ []) d ≡ max (best_of seen d) (given d p)
best_push seen p d =
    ap (λ l. greatest (map (λ (p : Post). p.score) l)) (filter-append (λ (p : Post). p.doc == d) seen (p ∷ []))
    ∙ elim (p.doc == d) as (λ b. greatest (map (λ (p : Post). p.score) (of_doc d seen ++ cond b (p ∷ []) [])) ≡ max (best_of seen d) (cond b p.score 0)) [
      | true ↦ ap greatest (map-append (λ (p : Post). p.score) (of_doc d seen) (p ∷ [])) ∙ greatest_push (map (λ (p : Post). p.score) (of_doc d seen)) p.score
      | false ↦ ap (λ l. greatest (map (λ (p : Post). p.score) l)) (append-nil (of_doc d seen)) ∙ omega arith
    ]

same_number : (x y : ℕ) → (x == y) ≡ true → x ≡ y
same_number x y h = grind (arith, nat_tests)

other_number : (x y : ℕ) → (x == y) ≡ false → x ≡ y → ⊥
other_number x y h e = grind (arith, nat_tests)

-- one post is noted
pub raised : (seen : List Post) (best : List ℕ) (p : Post) (v : ℕ) → p.doc < length best → v ≡ max (slice_index best p.doc) p.score
    → HasBestScores seen best → HasBestScores (seen ++ p ∷ []) (slice_set best p.doc v)
raised seen best p v l is has d m =
    let long = length-set best p.doc v in
    elim (p.doc == d) as (λ b. (p.doc == d) ≡ b → slice_index (slice_set best p.doc v) d ≡ best_of (seen ++ p ∷ []) d) [
      | true ↦ λ e.
          let same : p.doc ≡ d = same_number p.doc d e in
          ap (slice_index (slice_set best p.doc v)) (sym same) ∙ get_or-set_same best p.doc v 0 l ∙ is
          ∙ ap (λ x. max x p.score) (has p.doc l ∙ ap (best_of seen) same)
          ∙ sym (best_push seen p d ∙ ap (λ b. max (best_of seen d) (cond b p.score 0)) e)
      | false ↦ λ e.
          let zero_max : max (best_of seen d) 0 ≡ best_of seen d = omega arith in
          get_or-set_other best p.doc d v 0 (λ e'. other_number p.doc d e (sym e')) ∙ has d (omega (arith, m, long))
          ∙ sym (best_push seen p d ∙ ap (λ b. max (best_of seen d) (cond b p.score 0)) e ∙ zero_max)
    ] refl

-- the step of the loop
pub raised_more : (w : Weights) (seen : List Post) (keys best : List ℕ) (i : ℕ) (row : Post) (v : ℕ) → i < length keys → row ≡ post_of_key w (get_or keys i 0)
    → row.doc < length best → v ≡ max (slice_index best row.doc) row.score
    → HasBestScores (seen ++ map (post_of_key w) (take i keys)) best → HasBestScores (seen ++ map (post_of_key w) (take (i + 1) keys)) (slice_set best row.doc v)
raised_more w seen keys best i row v l at in_best is has =
    let longer : (seen ++ map (post_of_key w) (take i keys)) ++ row ∷ [] ≡ seen ++ map (post_of_key w) (take (i + 1) keys) = append_assoc seen
    (map (post_of_key w) (take i keys)) (row ∷ []) ∙ ap (λ r. seen ++ r) (sym (one_more w keys i row l at)) in
    subst (λ s. HasBestScores s (slice_set best row.doc v)) longer (raised (seen ++ map (post_of_key w) (take i keys)) best row v in_best is has)

pub raised_all : (w : Weights) (seen : List Post) (keys best : List ℕ) (i : ℕ) → length keys ≤ i → HasBestScores (seen ++ map (post_of_key w) (take i keys)) best
    → HasBestScores (seen ++ map (post_of_key w) keys) best
raised_all w seen keys best i l has = subst (λ ks. HasBestScores (seen ++ map (post_of_key w) ks) best) (take_all i keys l) has

-- a row is noted where it passes a test
pub raised_where : (t : Post → Bool) (seen rows : List Post) (best : List ℕ) (i : ℕ) (p : Post) (v : ℕ) → i < length rows → p ≡ get_or rows i p
    → p.doc < length best → v ≡ max (slice_index best p.doc) (cond (t p) p.score 0)
    → HasBestScores (seen ++ filter t (take i rows)) best → HasBestScores (seen ++ filter t (take (i + 1) rows)) (slice_set best p.doc v)
raised_where t seen rows best i p v lt at in_best is has =
    let longer : filter t (take (i + 1) rows) ≡ filter t (take i rows) ++ cond (t p) (p ∷ []) [] =
    ap (filter t) (take_more rows i p lt ∙ ap (λ x. take i rows ++ x ∷ []) (sym at)) ∙ filter-append t (take i rows) (p ∷ []) in
    elim (t p) as (λ b. v ≡ max (slice_index best p.doc) (cond b p.score 0) → filter t (take (i + 1) rows) ≡ filter t (take i rows) ++ cond b (p ∷ []) []
    → HasBestScores (seen ++ filter t (take (i + 1) rows)) (slice_set best p.doc v)) [
      | true ↦ λ e more.
          subst (λ xs. HasBestScores xs (slice_set best p.doc v)) (append_assoc seen (filter t (take i rows)) (p ∷ []) ∙ ap (λ xs. seen ++ xs) (sym more))
          (raised (seen ++ filter t (take i rows)) best p v in_best e has)
      | false ↦ λ e more.
          let stays : v ≡ slice_index best p.doc = omega (arith, e) in
          subst (λ xs. HasBestScores (seen ++ xs) (slice_set best p.doc v)) (sym (more ∙ append-nil (filter t (take i rows))))
          (set_again (seen ++ filter t (take i rows)) best p.doc v in_best stays has)
    ] is longer
  where
    set_again : (seen : List Post) (best : List ℕ) (d v : ℕ) → d < length best → v ≡ slice_index best d → HasBestScores seen best
        → HasBestScores seen (slice_set best d v)
    set_again seen best d v l same has e m =
        let long = length-set best d v in
        elim (d == e) as (λ b. (d == e) ≡ b → slice_index (slice_set best d v) e ≡ best_of seen e) [
          | true ↦ λ is.
              let one : d ≡ e = same_number d e is in
              ap (slice_index (slice_set best d v)) (sym one) ∙ get_or-set_same best d v 0 l ∙ same ∙ has d l ∙ ap (best_of seen) one
          | false ↦ λ is. get_or-set_other best d e v 0 (λ f. other_number d e is (sym f)) ∙ has e (omega (arith, m, long))
        ] refl

-- the step of the loop over columns, where a test looks at document and word
pub raised_row : (t : ℕ → ℕ → Bool) (seen rows : List Post) (docs words scores best : List ℕ) (i v : ℕ) → AreScoredOf rows docs words scores → i < length docs
    → slice_index docs i < length best
    → v ≡ max (slice_index best (slice_index docs i)) (cond (t (slice_index docs i) (slice_index words i)) (slice_index scores i) 0)
    → HasBestScores (seen ++ filter (λ p. t p.doc p.word) (take i rows)) best
    → HasBestScores (seen ++ filter (λ p. t p.doc p.word) (take (i + 1) rows)) (slice_set best (slice_index docs i) v)
raised_row t seen rows docs words scores best i v are lt below is has =
    let none : Post = record { doc = 0; word = 0; pos = 0; score = 0 } in
    let p = get_or rows i none in
    let long : length docs ≡ length rows = ap length are.0.0 ∙ length-map rows (λ (p : Post). p.doc) in
    let inside : i < length rows = omega (arith, lt, long) in
    let d : slice_index docs i ≡ p.doc = ap (λ l. get_or l i 0) are.0.0 ∙ get_or-map (λ (p : Post). p.doc) rows i none 0 inside in
    let w : slice_index words i ≡ p.word = ap (λ l. get_or l i 0) are.0.1 ∙ get_or-map (λ (p : Post). p.word) rows i none 0 inside in
    let s : slice_index scores i ≡ p.score = ap (λ l. get_or l i 0) are.1 ∙ get_or-map (λ (p : Post). p.score) rows i none 0 inside in
    let value : v ≡ max (slice_index best p.doc) (cond (t p.doc p.word) p.score 0) =
    is ∙ ap (λ n. max (slice_index best n) (cond (t n (slice_index words i)) (slice_index scores i) 0)) d
    ∙ ap (λ n. max (slice_index best p.doc) (cond (t p.doc n) (slice_index scores i) 0)) w
    ∙ ap (λ n. max (slice_index best p.doc) (cond (t p.doc p.word) n 0)) s in
    subst (λ n. HasBestScores (seen ++ filter (λ p. t p.doc p.word) (take (i + 1) rows)) (slice_set best n v)) (sym d)
    (raised_where (λ p. t p.doc p.word) seen rows best i p v inside (get_or_default rows i none p inside) (subst (λ n. n < length best) d below) value has)

pub raised_rows : (t : Post → Bool) (seen rows : List Post) (docs words scores best : List ℕ) (i : ℕ) → AreScoredOf rows docs words scores → length docs ≤ i
    → HasBestScores (seen ++ filter t (take i rows)) best → HasBestScores (seen ++ filter t rows) best
raised_rows t seen rows docs words scores best i are le has =
    let long : length docs ≡ length rows = ap length are.0.0 ∙ length-map rows (λ (p : Post). p.doc) in
    subst (λ rs. HasBestScores (seen ++ filter t rs) best) (take_all i rows (omega (arith, le, long))) has

-- ---- the hits of the table

pub hits_all : (whole done : List Scored) (best : List ℕ) (d : ℕ) → length best ≤ d → whole ≡ done ++ hits_in d (drop d best) → done ≡ whole
unfolding hits_in
hits_all whole done best d l left = sym (left ∙ ap (λ r. done ++ hits_in d r) (drop_all d best l) ∙ append-nil done)

-- ---- hits are read off the table
is_number : (x y : ℕ) → eq_by_cmp nat_cmp x y ≡ true → x ≡ y
is_number x y h = grind (arith, nat_tests)

none_in : (a q m : ℕ) → m ≡ a → (nat_le a q && nat_lt q m) ≡ false
none_in a q m e = grind (arith, nat_tests)

next_in : (q a n : ℕ) → (eq_by_cmp nat_cmp q a || (nat_le (a + 1) q && nat_lt q (a + 1 + n))) ≡ (nat_le a q && nat_lt q (a + suc n))
next_in q a n = grind (arith, nat_tests)

not_tied : (q d n : ℕ) → d < n → n ≤ q → eq_by_cmp nat_cmp q d ≡ false
not_tied q d n l m = grind (arith, nat_tests)

not_less : (q n : ℕ) → nat_lt q n ≡ false → n ≤ q
not_less q n h = grind (arith, nat_tests)

inside_test : (q n : ℕ) → nat_lt q n ≡ true → (nat_le 0 q && nat_lt q (0 + n)) ≡ true
inside_test q n h = grind (arith, nat_tests)

outside_test : (q n : ℕ) → nat_lt q n ≡ false → (nat_le 0 q && nat_lt q (0 + n)) ≡ false
outside_test q n h = grind (arith, nat_tests)

tie : (q d s : ℕ) → 1 ≤ s → ((d == q) && nat_lt 0 s) ≡ eq_by_cmp nat_cmp q d
tie q d s from = grind (arith, nat_tests)

all_later : (x a n : ℕ) → x < a → AllByRecursion (λ y. nat_cmp x y ≡ Less) (range_with_len a n)
all_later x a zero l = tt
all_later x a (suc n) l = (Less-from_lt x a l, all_later x (a + 1) n (omega (arith, l)))

settle_more : (b : Bool) (f : ℕ → Scored) (a : ℕ) (l : List ℕ) → cond b (f a ∷ map f l) (map f l) ≡ map f (cond b (a ∷ l) l)
settle_more true f a l = refl
settle_more false f a l = refl

over_max : (k n g : ℕ) → nat_lt k (max n g) ≡ (nat_lt k n || nat_lt k g)
over_max k n g = grind (arith, nat_tests)

over_none : (k : ℕ) → nat_lt k 0 ≡ false
over_none k = grind (arith, nat_tests)

-- the greatest is above k where one is
greatest_over : (k : ℕ) (ns : List ℕ) → nat_lt k (greatest ns) ≡ list_any (nat_lt k) ns
greatest_over k [] = over_none k
greatest_over k (n ∷ ns) = over_max k n (greatest ns) ∙ ap (λ b. nat_lt k n || b) (greatest_over k ns)

above : (a : ℕ) → nat_lt a a ≡ false
above a = grind (arith, nat_tests)

not_either : (a b : ℕ) → nat_lt a b ≡ false → nat_lt b a ≡ false → a ≡ b
not_either a b h k = grind (arith, nat_tests)

same_tests : (a b : ℕ) → ((k : ℕ) → nat_lt k a ≡ nat_lt k b) → a ≡ b
same_tests a b h = not_either a b (sym (h a) ∙ above a) (h b ∙ above b)

best_over : (rows : List Post) (d k : ℕ) → nat_lt k (best_of rows d) ≡ list_any (λ p. (p.doc == d) && nat_lt k p.score) rows
best_over rows d k =
    greatest_over k (map (λ (p : Post). p.score) (of_doc d rows)) ∙ any_map (nat_lt k) (λ (p : Post). p.score) (of_doc d rows)
    ∙ any_filter (λ (p : Post). nat_lt k p.score) (λ (p : Post). p.doc == d) rows

read_off : (seen : List Post) (a : ℕ) (bs : List ℕ) → ((i : ℕ) → i < length bs → slice_index bs i ≡ best_of seen (a + i))
    → hits_in a bs ≡ map (best_row seen) (filter (λ d. nat_lt 0 (best_of seen d)) (range_with_len a (length bs)))
unfolding hits_in
read_off seen a [] h = refl
read_off seen a (b ∷ bs) h =
    let at : b ≡ best_of seen a = let e : a + 0 ≡ a = omega arith in h 0 (omega arith) ∙ ap (best_of seen) e in
    let rest = read_off seen (a + 1) bs (λ i l. let e : a + suc i ≡ a + 1 + i = omega arith in h (suc i) (omega (arith, l)) ∙ ap (best_of seen) e) in
    ap (λ n. cond (nat_lt 0 b) (let s : Scored = record { doc = a; score = n } in s ∷ hits_in (a + 1) bs) (hits_in (a + 1) bs)) at
    ∙ ap (λ n. cond (nat_lt 0 n) (best_row seen a ∷ hits_in (a + 1) bs) (hits_in (a + 1) bs)) at
    ∙ ap (λ l. cond (nat_lt 0 (best_of seen a)) (best_row seen a ∷ l) l) rest
    ∙ settle_more (nat_lt 0 (best_of seen a)) (best_row seen) a (filter (λ d. nat_lt 0 (best_of seen d)) (range_with_len (a + 1) (length bs)))

-- the documents with a post are those that have an entry
eq_sides : (q d : ℕ) (p : ℕ → Bool) → (p d && eq_by_cmp nat_cmp q d) ≡ (eq_by_cmp nat_cmp q d && p q)
eq_sides q d p =
    elim (eq_by_cmp nat_cmp q d) as (λ b. eq_by_cmp nat_cmp q d ≡ b → (p d && b) ≡ (b && p q)) [
      | true ↦ λ e. and-true (p d) ∙ ap p (sym (is_number q d e))
      | false ↦ λ e. and-false (p d)
    ] refl

any_range : (q : ℕ) (p : ℕ → Bool) (a n : ℕ) → list_any (λ d. p d && eq_by_cmp nat_cmp q d) (range_with_len a n) ≡ ((nat_le a q && nat_lt q (a + n)) && p q)
any_range q p a zero = let e : a + 0 ≡ a = omega arith in sym (ap (λ b. b && p q) (none_in a q (a + 0) e))
any_range q p a (suc n) =
    ap (λ b. b || list_any (λ d. p d && eq_by_cmp nat_cmp q d) (range_with_len (a + 1) n)) (eq_sides q a p)
    ∙ ap (λ b. (eq_by_cmp nat_cmp q a && p q) || b) (any_range q p (a + 1) n)
    ∙ sym (and-or_distrib_right (eq_by_cmp nat_cmp q a) (nat_le (a + 1) q && nat_lt q (a + 1 + n)) (p q))
    ∙ ap (λ b. b && p q) (next_in q a n)

range_rises : (a n : ℕ) → IsStrictlySortedBy nat_cmp (range_with_len a n)
unfolding IsStrictlySortedBy
range_rises a zero = tt
range_rises a (suc n) = (all_later a (a + 1) n (omega arith), range_rises (a + 1) n)

absent : (seen : List Post) (n q : ℕ) → AllByRecursion (λ p. p.doc < n) seen → n ≤ q → list_any (λ p. eq_by_cmp nat_cmp q p.doc) seen ≡ false
absent [] n q h l = refl
absent (p ∷ seen) n q h l = ap (λ b. b || list_any (λ (p : Post). eq_by_cmp nat_cmp q p.doc) seen) (not_tied q p.doc n h.0 l) ∙ absent seen n q h.1 l

any_scored : (q : ℕ) (seen : List Post) → AllByRecursion (λ p. 1 ≤ p.score) seen
    → list_any (λ p. (p.doc == q) && nat_lt 0 p.score) seen ≡ list_any (λ p. eq_by_cmp nat_cmp q p.doc) seen
any_scored q [] h = refl
any_scored q (p ∷ seen) h = ap₂ (λ a b. a || b) (tie q p.doc p.score h.0) (any_scored q seen h.1)

-- of rows that have a score a document has an entry where it has a row
has_entry : (seen : List Post) (q : ℕ) → All (λ p. 1 ≤ p.score) seen → nat_lt 0 (best_of seen q) ≡ list_any (λ p. eq_by_cmp nat_cmp q p.doc) seen
has_entry seen q scored = best_over seen q 0 ∙ any_scored q seen (recursion_from_All (λ (p : Post). 1 ≤ p.score) seen scored)

pub docs_are : (seen : List Post) (n : ℕ) → All (λ p. p.doc < n) seen → All (λ p. 1 ≤ p.score) seen
    → filter (λ d. nat_lt 0 (best_of seen d)) (range_with_len 0 n) ≡ docs_of seen
docs_are seen n inside scored =
    members_are nat_cmp nat_cmp_total nat_cmp-IsAntisymmetric (filter (λ d. nat_lt 0 (best_of seen d)) (range_with_len 0 n)) (map (λ p. p.doc) seen)
    (IsStrictlySortedBy-filter nat_cmp _ (range_with_len 0 n) (range_rises 0 n))
    (λ q. any_filter (eq_by_cmp nat_cmp q) (λ d. nat_lt 0 (best_of seen d)) (range_with_len 0 n) ∙ any_range q (λ d. nat_lt 0 (best_of seen d)) 0 n
    ∙ ap (λ b. (nat_le 0 q && nat_lt q (0 + n)) && b) (has_entry seen q scored)
    ∙ elim (nat_lt q n) as (λ b. nat_lt q n ≡ b
    → ((nat_le 0 q && nat_lt q (0 + n)) && list_any (λ (p : Post). eq_by_cmp nat_cmp q p.doc) seen) ≡ list_any (λ (p : Post). eq_by_cmp nat_cmp q p.doc) seen) [
      | true ↦ λ e. ap (λ b. b && list_any (λ (p : Post). eq_by_cmp nat_cmp q p.doc) seen) (inside_test q n e)
      | false ↦ λ e. let none = absent seen n q (recursion_from_All (λ (p : Post). p.doc < n) seen inside) (not_less q n e) in
          ap (λ b. b && list_any (λ (p : Post). eq_by_cmp nat_cmp q p.doc) seen) (outside_test q n e) ∙ sym none
    ] refl
    ∙ sym (any_map (eq_by_cmp nat_cmp q) (λ (p : Post). p.doc) seen))

-- the hits that are read off the table are the documents of the posts with their scores
pub hits_are : (seen : List Post) (best : List ℕ) → HasBestScores seen best → All (λ p. p.doc < length best) seen → All (λ p. 1 ≤ p.score) seen
    → hits_in 0 best ≡ map (best_row seen) (docs_of seen)
hits_are seen best has inside scored =
    read_off seen 0 best (λ i l. let e : i ≡ 0 + i = omega arith in has i l ∙ ap (best_of seen) e)
    ∙ ap (map (best_row seen)) (docs_are seen (length best) inside scored)

pub map_same : {X : Type 0} (f g : ℕ → X) → ((w : ℕ) → f w ≡ g w) → (ws : List ℕ) → map f ws ≡ map g ws
map_same f g h [] = refl
map_same f g h (w ∷ ws) = ap (λ x. x ∷ map f ws) (h w) ∙ ap (λ l. g w ∷ l) (map_same f g h ws)

-- ---- rows with the same members
-- the table depends on the rows' members alone
pub alike_best : (xs ys : List Post) (best : List ℕ) → ((t : Post → Bool) → list_any t xs ≡ list_any t ys) → HasBestScores xs best → HasBestScores ys best
alike_best xs ys best a has d l = has d l ∙ same_tests _ _ (λ k. best_over xs d k ∙ a _ ∙ sym (best_over ys d k))

-- ---- the hits of a table are in range
later_hits : (x a : ℕ) (bs : List ℕ) → x < a → AllByRecursion (λ h. nat_cmp x h.doc ≡ Less) (hits_in a bs)
unfolding hits_in
later_hits x a [] l = tt
later_hits x a (v ∷ bs) l =
    let rest = later_hits x (a + 1) bs (omega (arith, l)) in
    elim (nat_lt 0 v) as (λ t. AllByRecursion (λ (h : Scored). nat_cmp x h.doc ≡ Less)
    (cond t (record { doc = a; score = v } ∷ hits_in (a + 1) bs) (hits_in (a + 1) bs))) [
      | true ↦ (Less-from_lt x a l, rest)
      | false ↦ rest
    ]

hits_rise : (a : ℕ) (bs : List ℕ) → AreByDoc (hits_in a bs)
unfolding hits_in IsStrictlySortedBy
hits_rise a [] = tt
hits_rise a (v ∷ bs) =
    let rest = hits_rise (a + 1) bs in
    elim (nat_lt 0 v) as (λ t. AreByDoc (cond t (record { doc = a; score = v } ∷ hits_in (a + 1) bs) (hits_in (a + 1) bs))) [
      | true ↦ (later_hits a (a + 1) bs (omega arith), rest)
      | false ↦ rest
    ]

hits_small : (docs bound a : ℕ) (bs : List ℕ) → a + length bs ≤ docs → AllByRecursion (λ v. v ≤ bound) bs → AllByRecursion (IsHitOf docs bound) (hits_in a bs)
unfolding hits_in
hits_small docs bound a [] le h = tt
hits_small docs bound a (v ∷ bs) le h =
    let rest = hits_small docs bound (a + 1) bs (omega (arith, le)) h.1 in
    let low = h.0 in
    elim (nat_lt 0 v) as (λ t. AllByRecursion (IsHitOf docs bound) (cond t (record { doc = a; score = v } ∷ hits_in (a + 1) bs) (hits_in (a + 1) bs))) [
      | true ↦ (record { doc = omega (arith, le); score = low }, rest)
      | false ↦ rest
    ]

pub hits_fit : (docs bound : ℕ) (best : List ℕ) (hits : List Scored) → length best ≡ docs → All (λ v. v ≤ bound) best → hits ≡ hits_in 0 best
    → IsBaseOf docs bound (base.Listed hits)
hits_fit docs bound best hits long small are =
    subst (λ hs. IsBaseOf docs bound (base.Listed hs)) (sym are) (
      hits_rise 0 best,
      All-from_recursion (IsHitOf docs bound) (hits_in 0 best)
          (hits_small docs bound 0 best (omega (arith, long)) (recursion_from_All (λ v. v ≤ bound) best small)),
    )

own_rows : (lo hi : ℕ) (listed : List Bool) (rows : List Post) → AllByRecursion (λ w. (lo ≤ w) × (w < hi)) (map (λ p. p.word) rows)
    → filter (is_of_listed listed) rows ≡ filter (is_chosen lo hi listed) rows
own_rows lo hi listed [] own = refl
own_rows lo hi listed (p ∷ rows) own =
    let rest = filter (is_chosen lo hi listed) rows in
    let range : (nat_le lo p.word && nat_lt p.word hi) ≡ true = and_from _ _ (le-leb lo p.word own.0.0) (lt-ltb p.word hi own.0.1) in
    ap (λ xs. cond (is_of_listed listed p) (p ∷ xs) xs) (own_rows lo hi listed rows own.1)
    ∙ ap (λ b. cond (b && is_of_listed listed p) (p ∷ rest) rest) (sym range)

pub own_chosen : (lo hi : ℕ) (listed : List Bool) (rows : List Post) (docs words scores : List ℕ) → AreScoredOf rows docs words scores → All (λ w. (lo ≤ w) × (w < hi)) words
    → filter (is_of_listed listed) rows ≡ filter (is_chosen lo hi listed) rows
own_chosen lo hi listed rows docs words scores are own =
    own_rows lo hi listed rows
    (recursion_from_All (λ w. (lo ≤ w) × (w < hi)) (map (λ p. p.word) rows) (subst (All (λ w. (lo ≤ w) × (w < hi))) are.0.1 own))
