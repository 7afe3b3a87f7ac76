-- A pass over rows beside listed documents.
use Rattle.std.proofs.Common.{◌≡◌, ℕ, ◌+◌, ◌<◌, ◌≤◌, true, false, List, length, get_or, refl, sym, ◌∙◌, subst, arith}
use Rattle.std.specs.Prelude.{◌==◌, nat_lt}
use Rattle.std.specs.List.{list_any}
use Rattle.std.specs.List.Sorted.{IsNonDecreasing, IsStrictlySortedBy}
use Rattle.std.specs.declared.cmp.Ordering.{Ordering}
use Rattle.std.specs.declared.cmp.Ordering.TheVariants.{Less}
use Rattle.std.proofs.lemmas.List.{get_or_default}
use Rattle.std.proofs.lemmas.Map.Keys.{Less-from_sorted, below_from_sorted}
use Rattle.std.proofs.lemmas.Bool.Decides.{nat_tests}
use Rattle.std.proofs.lemmas.List.Folds.{list_any_at}
use Rattle.cs_base.specs.declared.content.doc.Post.{Post}
use Rattle.cs_base.specs.declared.content.doc.Scored.{Scored}
use Rattle.cs_base.specs.content.Orders.{by_place, by_doc, AreDocs}
use Rattle.cs_meet.specs.Filters.{is_of_doc}
use Rattle.cs_meet.specs.RowPlaces.{AllBelow, SplitsDocs, AheadOf, is_before}
use Rattle.cs_meet.proofs.Passes.{none_at}

-- where the document at n is less than d, the first n + 1 are
pub below_through : (docs : List ℕ) (n d : ℕ) → IsNonDecreasing docs → n < length docs → get_or docs n 0 < d → (m : ℕ) → m ≡ n + 1 → AllBelow docs m d
below_through docs n d up within less m is k below = let least = up k n 0 (omega arith) within in omega (arith, least, less)

module _ (docs : List ℕ) (n d : ℕ) (split : SplitsDocs docs n d) where
  -- at the end the document isn't listed
  pub listed_past : length docs ≤ n → list_any (λ e. e == d) docs ≡ false
  listed_past past = none_at (λ e. e == d) docs 0 (λ k below.
      let less = split.below k (omega arith) in
      grind (arith, nat_tests, less))

  listed_other : IsNonDecreasing docs → n < length docs → (get_or docs n 0 == d) ≡ false → list_any (λ e. e == d) docs ≡ false
  listed_other up within other = none_at (λ e. e == d) docs 0 (λ k below.
      elim (nat_lt k n) as (λ t. nat_lt k n ≡ t → (get_or docs k 0 == d) ≡ false) [
        | true ↦ λ t.
            let less = split.below k (grind (arith, nat_tests)) in
            grind (arith, nat_tests, less)
        | false ↦ λ t.
            let least = up n k 0 (grind (arith, nat_tests)) below in
            let stop = split.stop within in
            grind (arith, nat_tests, least, stop, other)
      ] refl)

  -- within the list the document there decides
  pub listed_at : IsNonDecreasing docs → n < length docs → (get_or docs n 0 == d) ≡ list_any (λ e. e == d) docs
  listed_at up within =
      elim (get_or docs n 0 == d) as (λ v. (get_or docs n 0 == d) ≡ v → v ≡ list_any (λ e. e == d) docs) [
        | true ↦ λ here. sym (list_any_at (λ e. e == d) docs n 0 within here)
        | false ↦ λ other. sym (listed_other up within other)
      ] refl

less_isnt_listed : (r : Post) (d : ℕ) → d < r.doc → is_of_doc r d ≡ false
less_isnt_listed r d h = grind (arith, nat_tests)

before_isnt_here : (r : Post) (d : ℕ) → is_before r d 0 ≡ true → is_of_doc r d ≡ false
before_isnt_here r d h = grind (arith, nat_tests)

before_isnt_listed : (r : Post) (d e : ℕ) → is_before r d 0 ≡ true → d < e → is_of_doc r e ≡ false
before_isnt_listed r d e h more = grind (arith, nat_tests)

-- the documents of what is in order don't fall
pub post_rises : (x y : Post) → by_place x y ≡ Less → x.doc ≤ y.doc
post_rises x y h = grind (arith, nat_tests)

pub scored_rises : (x y : Scored) → by_doc x y ≡ Less → x.doc ≤ y.doc
scored_rises x y h = grind (arith, nat_tests)

module _ {B : Type 0} (R : B → B → Ordering) (doc : B → ℕ) (rises : (x y : B) → R x y ≡ Less → doc x ≤ doc y) (docs : List ℕ) (b : List B) where
  pub listed_more : (n j : ℕ) (x : B) → IsStrictlySortedBy R b → j < length b → x ≡ get_or b j x → SplitsDocs docs n (doc x) → AheadOf doc docs b n (j + 1)
  listed_more n j x up l is split = record {
    within = split.within;
    below = λ m e from in_b k h.
        let later : doc x ≤ doc (get_or b m e) =
        subst (λ y. doc y ≤ doc (get_or b m e)) (sym (is ∙ get_or_default b j x e l))
        (rises (get_or b j e) (get_or b m e) (Less-from_sorted R b j m e up (omega arith) in_b)) in
        let less = split.below k h in
        omega (arith, later, less);
  }

  -- what holds from j on holds from a later place on
  pub listed_on : (i j n : ℕ) → j ≤ n → AheadOf doc docs b i j → AheadOf doc docs b i n
  listed_on i j n on h = record { within = h.within; below = λ m e from in_b. h.below m e (omega arith) in_b }

module _ (docs : List ℕ) (rows : List Post) where
  module _ (i j : ℕ) (ahead : AheadOf (λ r. r.doc) docs rows i j) where
    -- rows before the document at i have no listed one
    pub none_listed : AreDocs docs → i < length docs → (n : ℕ) → n ≤ length rows → ((k : ℕ) (e : Post) → j ≤ k → k < n → is_before (get_or rows k e) (get_or docs i 0) 0 ≡ true)
        → (k : ℕ) (e : Post) → j ≤ k → k < n → list_any (is_of_doc (get_or rows k e)) docs ≡ false
    none_listed up within n small passed k e from below = none_at (is_of_doc (get_or rows k e)) docs 0 (λ m in_docs.
        elim (nat_lt m i) as (λ t. nat_lt m i ≡ t → is_of_doc (get_or rows k e) (get_or docs m 0) ≡ false) [
          | true ↦ λ t. less_isnt_listed (get_or rows k e) (get_or docs m 0) (ahead.below k e from (omega arith) m (grind (arith, nat_tests)))
          | false ↦ λ t. elim (nat_lt i m) as (λ u. nat_lt i m ≡ u → is_of_doc (get_or rows k e) (get_or docs m 0) ≡ false) [
            | true ↦ λ u. before_isnt_listed (get_or rows k e) (get_or docs i 0) (get_or docs m 0) (passed k e from below) (below_from_sorted docs i m 0 up (grind (arith, nat_tests)) in_docs)
            | false ↦ λ u.
                let same : i ≡ m = grind (arith, nat_tests) in
                subst (λ q. is_of_doc (get_or rows k e) (get_or docs q 0) ≡ false) same (before_isnt_here (get_or rows k e) (get_or docs i 0) (passed k e from below))
          ] refl
        ] refl)

    -- behind the last document no row has a listed one
    pub none_listed_past : length docs ≤ i → (k : ℕ) (e : Post) → j ≤ k → k < length rows → list_any (is_of_doc (get_or rows k e)) docs ≡ false
    none_listed_past past k e from below = none_at (is_of_doc (get_or rows k e)) docs 0 (λ m in_docs. less_isnt_listed (get_or rows k e) (get_or docs m 0) (ahead.below k e from below m (omega arith)))
