-- Numbered lists and ranges of numbers.
--
--   keys_numbered        the keys of a numbered list are its numbers
--   get_numbered         what is held at a number
--   range_rises          numbers in turn ascend
use Rattle.std.proofs.Common.{◌≡◌, ℕ, zero, suc, ◌+◌, ◌<◌, ◌≤◌, ◌==◌, ◌&&◌, ◌||◌, Bool, true, false, List, [], ◌∷◌, T, cond, length, map, refl, sym, ◌∙◌}
use Rattle.std.proofs.Common.{ap, arith}
use Rattle.std.specs.Prelude.{Some}
use Rattle.std.specs.List.{All, AllByRecursion, list_any, enumerate_from, range_with_len, slice_get}
use Rattle.std.specs.List.Sorted.{IsStrictlySortedBy}
use Rattle.std.specs.Ordering.{nat_cmp, is_lt}
use Rattle.std.specs.Cmp.{nat_cmp_total, unsigned_tied}
use Rattle.std.specs.declared.cmp.Ordering.TheVariants.{Less}
use Rattle.std.specs.FinMap.{get, keys, find, is_sorted, from_entries, from_sorted, same_map, get-from_entries, get-from_sorted, entries-from_sorted}
use Rattle.std.specs.FinMap.{nat_cmp-IsAntisymmetric}
use Rattle.std.specs.FinMap.Entries.{below_all}
use Rattle.std.proofs.lemmas.Bool.Decides.{nat_tests}
use Rattle.std.proofs.lemmas.List.FromFn.{length-range_with_len, get_or-range_with_len}
use Rattle.cs_base.proofs.OrdersLemmas.{Less-from_lt}

-- ---- numbered lists

both : (a b : Bool) → T a → T b → T (a && b)
both true b p q = q
both false b p q = p

below : (a b : ℕ) → a < b → T (is_lt (nat_cmp a b))
below a b h = grind (arith, nat_tests)

module _ {X : Type 0} where
  later : (a b : ℕ) (xs : List X) → a < b → T (below_all nat_cmp a (enumerate_from b xs))
  later a b [] h = tt
  later a b (x ∷ xs) h = both _ _ (below a b h) (later a (b + 1) xs (omega arith))

  numbered : (a : ℕ) (xs : List X) → T (is_sorted nat_cmp (enumerate_from a xs))
  numbered a [] = tt
  numbered a (x ∷ xs) = both _ _ (later a (a + 1) xs (omega arith)) (numbered (a + 1) xs)

  places : (a : ℕ) (xs : List X) → map (λ e. e.0) (enumerate_from a xs) ≡ range_with_len a (length xs)
  places a [] = refl
  places a (x ∷ xs) = ap (λ l. a ∷ l) (places (a + 1) xs)

  pub keys_numbered : (xs : List X) → keys (from_entries {R = nat_cmp} (enumerate_from 0 xs)) ≡ range_with_len 0 (length xs)
  keys_numbered xs =
      let es = enumerate_from 0 xs in
      let rising = numbered 0 xs in
      let one : from_entries {R = nat_cmp} es ≡ from_sorted es = same_map nat_cmp_total nat_cmp-IsAntisymmetric _ _ (λ q.
      get-from_entries nat_cmp_total es q ∙ sym (get-from_sorted nat_cmp es q rising)) in
      ap keys one ∙ ap (map (λ e. e.0)) (entries-from_sorted nat_cmp es rising) ∙ places 0 xs

  found_at : (a : ℕ) (xs : List X) (i q : ℕ) → a + i ≡ q → find nat_cmp q (enumerate_from a xs) ≡ slice_get xs i
  found_at a [] i q e = refl
  found_at a (x ∷ xs) zero q e =
      let same : (q == a) ≡ true = grind (arith, nat_tests) in
      ap (λ b. cond b (Some x) (find nat_cmp q (enumerate_from (a + 1) xs))) (unsigned_tied q a ∙ same)
  found_at a (x ∷ xs) (suc i) q e =
      let other : (q == a) ≡ false = grind (arith, nat_tests) in
      ap (λ b. cond b (Some x) (find nat_cmp q (enumerate_from (a + 1) xs))) (unsigned_tied q a ∙ other)
      ∙ found_at (a + 1) xs i q (omega arith)

  pub get_numbered : (xs : List X) (d : ℕ) → get (from_entries {R = nat_cmp} (enumerate_from 0 xs)) d ≡ slice_get xs d
  get_numbered xs d = get-from_entries nat_cmp_total (enumerate_from 0 xs) d ∙ found_at 0 xs d d (omega arith)

range_above : (a b n : ℕ) → a < b → AllByRecursion (λ d. nat_cmp a d ≡ Less) (range_with_len b n)
range_above a b zero h = tt
range_above a b (suc n) h = (Less-from_lt a b h, range_above a (b + 1) n (omega arith))

pub range_rises : (a n : ℕ) → IsStrictlySortedBy nat_cmp (range_with_len a n)
unfolding IsStrictlySortedBy
range_rises a zero = tt
range_rises a (suc n) = (range_above a (a + 1) n (omega arith), range_rises (a + 1) n)

-- a number below the end is in the range
pub in_range : (a n d : ℕ) → a ≤ d → d < a + n → list_any (λ e. e == d) (range_with_len a n) ≡ true
in_range a zero d low high = absurd (omega arith)
in_range a (suc n) d low high =
    elim (a == d) as (λ b. a == d ≡ b → (b || list_any (λ e. e == d) (range_with_len (a + 1) n)) ≡ true) [
      | true ↦ λ e. refl
      | false ↦ λ e. in_range (a + 1) n d (grind (arith, nat_tests)) (omega arith)
    ] refl

-- each of the first numbers is below their count
pub range_below : (n : ℕ) → All (λ d. d < n) (range_with_len 0 n)
range_below n k d l =
    let many = length-range_with_len 0 n in
    let at = get_or-range_with_len 0 n k d (omega (arith, l, many)) in
    omega (arith, l, many, at)
