-- One look at the place where a pass stands decides whether any post passes a test.
use Rattle.std.proofs.Common.{◌≡◌, ℕ, ◌+◌, ◌-◌, ◌<◌, ◌≤◌, ◌||◌, Bool, true, false, List, length, get_or, refl, sym, ◌∙◌, ap, subst, arith}
use Rattle.std.specs.Prelude.{nat_lt, max}
use Rattle.std.specs.List.{list_any}
use Rattle.std.proofs.lemmas.Map.Keys.{Less-from_sorted}
use Rattle.std.proofs.lemmas.Bool.Decides.{nat_tests}
use Rattle.std.proofs.lemmas.List.Folds.{list_any_at}
use Rattle.cs_base.specs.declared.content.doc.Post.{Post}
use Rattle.cs_base.specs.content.Orders.{by_place, AreSorted}
use Rattle.cs_base.specs.declared.content.limits.TheConstants.{MAX_DISTANCE}
use Rattle.cs_meet.specs.Filters.{stands_behind, is_near}
use Rattle.cs_meet.specs.RowPlaces.{is_before, Splits, Ahead, near_at}
use Rattle.cs_meet.proofs.Passes.{none_at, IsUpTo, up_to}

-- where k is at least n, the post at k is at the place of the post at n or behind it
pub in_turn : (a : List Post) (n k : ℕ) (e : Post) → AreSorted a → n ≤ k → k < length a → IsUpTo (get_or a n e).doc (get_or a n e).pos (get_or a k e).doc (get_or a k e).pos
in_turn a n k e up from below =
    elim (nat_lt n k) as (λ t. nat_lt n k ≡ t → IsUpTo (get_or a n e).doc (get_or a n e).pos (get_or a k e).doc (get_or a k e).pos) [
      | true ↦ λ t. up_to (get_or a n e) (get_or a k e) (Less-from_sorted by_place a n k e up (grind (arith, nat_tests)) below)
      | false ↦ λ t.
          let same : n ≡ k = grind (arith, nat_tests) in
          subst (λ m. IsUpTo (get_or a n e).doc (get_or a n e).pos (get_or a m e).doc (get_or a m e).pos) same (grind arith)
    ] refl

module _ (test : Post → Bool) (d p : ℕ)
    (early : (x : Post) → is_before x d p ≡ true → test x ≡ false)
    (late : (x y : Post) → IsUpTo x.doc x.pos y.doc y.pos → is_before x d p ≡ false → test x ≡ false → test y ≡ false)
    (a : List Post) (n : ℕ) (split : Splits a n d p) where
  -- at the end no post passes
  pub judged_past : length a ≤ n → (e : Post) → list_any test a ≡ false
  judged_past past e = none_at test a e (λ k below. early (get_or a k e) (split.before k e (omega arith)))

  judged_no : AreSorted a → n < length a → (e : Post) → test (get_or a n e) ≡ false → list_any test a ≡ false
  judged_no up within e other = none_at test a e (λ k below.
      elim (nat_lt k n) as (λ t. nat_lt k n ≡ t → test (get_or a k e) ≡ false) [
        | true ↦ λ t. early (get_or a k e) (split.before k e (grind (arith, nat_tests)))
        | false ↦ λ t. late (get_or a n e) (get_or a k e) (in_turn a n k e up (grind (arith, nat_tests)) below) (split.stop e within) other
      ] refl)

  -- within the list the post there decides
  pub judged_at : AreSorted a → n < length a → (x : Post) → x ≡ get_or a n x → test x ≡ list_any test a
  judged_at up within x is =
      elim (test x) as (λ v. test x ≡ v → v ≡ list_any test a) [
        | true ↦ λ here. sym (list_any_at test a n x within (ap test (sym is) ∙ here))
        | false ↦ λ other. sym (judged_no up within x (ap test (sym is) ∙ other))
      ] refl

-- where the pass over b goes next: rows that stand before what the post at i wants pass no test
module _ (test : Post → Post → Bool) (doc pos want : Post → ℕ)
    (early : (r x : Post) → is_before x (doc r) (pos r) ≡ true → test r x ≡ false)
    (far : (r x y : Post) → IsUpTo x.doc x.pos y.doc y.pos → is_before r x.doc (want x) ≡ true → test r y ≡ false)
    (a b : List Post) (i j : ℕ) (ahead : Ahead doc pos a b i j) where
  pub none_until : AreSorted a → i < length a → (x : Post) → x ≡ get_or a i x → (n : ℕ) → n ≤ length b → ((k : ℕ) (e : Post) → j ≤ k → k < n → is_before (get_or b k e) x.doc (want x) ≡ true)
      → (k : ℕ) (e : Post) → j ≤ k → k < n → list_any (test (get_or b k e)) a ≡ false
  none_until up within x is n small passed k e from below = none_at (test (get_or b k e)) a x (λ m in_a.
      elim (nat_lt m i) as (λ t. nat_lt m i ≡ t → test (get_or b k e) (get_or a m x) ≡ false) [
        | true ↦ λ t. early (get_or b k e) (get_or a m x) (ahead.before k e from (omega arith) m x (grind (arith, nat_tests)))
        | false ↦ λ t. far (get_or b k e) x (get_or a m x)
            (subst (λ y. IsUpTo y.doc y.pos (get_or a m x).doc (get_or a m x).pos) (sym is) (in_turn a i m x up (grind (arith, nat_tests)) in_a))
            (passed k e from below)
      ] refl)

  pub none_left : length a ≤ i → (k : ℕ) (e : Post) → j ≤ k → k < length b → list_any (test (get_or b k e)) a ≡ false
  none_left past k e from below = none_at (test (get_or b k e)) a e (λ m in_a. early (get_or b k e) (get_or a m e) (ahead.before k e from below m e (omega arith)))

pub before_isnt_behind : (r x : Post) → is_before x r.doc (r.pos - 1) ≡ true → stands_behind r x ≡ false
before_isnt_behind r x h = grind (arith, nat_tests)

pub later_isnt_behind : (r x y : Post) → IsUpTo x.doc x.pos y.doc y.pos → is_before x r.doc (r.pos - 1) ≡ false → stands_behind r x ≡ false → stands_behind r y ≡ false
later_isnt_behind r x y up stop other = grind (arith, nat_tests)

-- r stands before the place behind x, y comes later
pub far_isnt_behind : (r x y : Post) → IsUpTo x.doc x.pos y.doc y.pos → is_before r x.doc (x.pos + 1) ≡ true → stands_behind r y ≡ false
far_isnt_behind r x y up h = grind (arith, nat_tests)

-- r stands more than MAX_DISTANCE positions before x, y comes later
pub far_isnt_near : (r x y : Post) → IsUpTo x.doc x.pos y.doc y.pos → is_before r x.doc (x.pos - MAX_DISTANCE) ≡ true → is_near r y ≡ false
far_isnt_near r x y up h = grind (arith, nat_tests)

-- what is before the window of r isn't near it
pub early_isnt_near : (r x : Post) → is_before x r.doc (max (r.pos - MAX_DISTANCE) 1) ≡ true → is_near r x ≡ false
early_isnt_near r x h = grind (arith, nat_tests)

-- x is the first of the window, y comes later but not behind r
between_isnt_near : (r x y : Post) → IsUpTo x.doc x.pos y.doc y.pos → is_before x r.doc (max (r.pos - MAX_DISTANCE) 1) ≡ false → is_near r x ≡ false → is_before y r.doc (r.pos + 1) ≡ true → is_near r y ≡ false
between_isnt_near r x y up stop other h = grind (arith, nat_tests)

-- x is the first behind r, y comes later
behind_isnt_near : (r x y : Post) → IsUpTo x.doc x.pos y.doc y.pos → is_before x r.doc (r.pos + 1) ≡ false → is_near r x ≡ false → is_near r y ≡ false
behind_isnt_near r x y up stop other = grind (arith, nat_tests)

module _ (a : List Post) (r : Post) (lo hi : ℕ) (up : AreSorted a) (first : Splits a lo r.doc (max (r.pos - MAX_DISTANCE) 1)) (behind : Splits a hi r.doc (r.pos + 1)) where
  near_none : near_at a lo r ≡ false → near_at a hi r ≡ false → list_any (is_near r) a ≡ false
  near_none other neither = none_at (is_near r) a r (λ k below.
      elim (nat_lt k lo) as (λ t. nat_lt k lo ≡ t → is_near r (get_or a k r) ≡ false) [
        | true ↦ λ t. early_isnt_near r (get_or a k r) (first.before k r (grind (arith, nat_tests)))
        | false ↦ λ t. elim (nat_lt k hi) as (λ u. nat_lt k hi ≡ u → is_near r (get_or a k r) ≡ false) [
          | true ↦ λ u.
              let from : lo ≤ k = grind (arith, nat_tests) in
              between_isnt_near r (get_or a lo r) (get_or a k r) (in_turn a lo k r up from below) (first.stop r (omega arith)) (grind (arith, nat_tests)) (behind.before k r (grind (arith, nat_tests)))
          | false ↦ λ u.
              let from : hi ≤ k = grind (arith, nat_tests) in
              behind_isnt_near r (get_or a hi r) (get_or a k r) (in_turn a hi k r up from below) (behind.stop r (omega arith)) (grind (arith, nat_tests))
        ] refl
      ] refl)

  near_some : (i : ℕ) → near_at a i r ≡ true → list_any (is_near r) a ≡ true
  near_some i here = list_any_at (is_near r) a i r (grind (arith, nat_tests)) (grind (arith, nat_tests))

  -- the first post of the window and the first behind the row decide
  pub near_decided : near_at a lo r || near_at a hi r ≡ list_any (is_near r) a
  near_decided =
      elim (near_at a lo r) as (λ s. near_at a lo r ≡ s → s || near_at a hi r ≡ list_any (is_near r) a) [
        | true ↦ λ here. sym (near_some lo here)
        | false ↦ λ other. elim (near_at a hi r) as (λ t. near_at a hi r ≡ t → t ≡ list_any (is_near r) a) [
          | true ↦ λ here. sym (near_some hi here)
          | false ↦ λ neither. sym (near_none other neither)
        ] refl
      ] refl
