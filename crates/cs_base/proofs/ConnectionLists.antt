-- Lists of connections as sets and a map of their numbers.
use Rattle.std.proofs.Common.{◌≡◌, ◌≢◌, ℕ, zero, suc, ◌+◌, ◌<◌, ◌≤◌, Bool, true, false, not, ◌||◌, ◌&&◌, List, [], ◌∷◌, ◌++◌, length, get_or, cond, refl, sym, ◌∙◌, ap, subst, arith}
use Rattle.std.specs.Prelude.{Option, Some, None, slice_set, nat_eq}
use Rattle.std.specs.Ordering.{nat_cmp, eq_by_cmp}
use Rattle.std.specs.FinMap as fin
use Rattle.std.specs.FinSet as set
use Rattle.std.specs.Cmp.{unsigned_tied}
use Rattle.std.proofs.lemmas.Cmp.{nat_cmp_total}
use Rattle.std.proofs.lemmas.Bool.Decides.{nat_tests}
use Rattle.std.proofs.Math.Seq.{get_or-append_seam}
use Rattle.std.proofs.lemmas.List.{get_or-set_same, get_or-set_other, get_or_past}
use Rattle.cs_base.specs.outside.Hub.{Conns}
use Rattle.cs_base.specs.outside.ScriptParts.{places_from, values_from}

-- equality of numbers as a map tests it
tied : (q n : ℕ) → eq_by_cmp nat_cmp q n ≡ nat_eq q n
tied q n = unsigned_tied q n

differs : (q n : ℕ) → q ≢ n → eq_by_cmp nat_cmp q n ≡ false
differs q n h = tied q n ∙ grind (arith, nat_tests)

itself : (q n : ℕ) → q ≡ n → eq_by_cmp nat_cmp q n ≡ true
itself q n h = tied q n ∙ grind (arith, nat_tests)

-- ---- places

none_before : (n : ℕ) (bs : List Bool) (q : ℕ) → q < n → set.contains (places_from n bs) q ≡ false
none_before n [] q h = set.contains-empty nat_cmp q
none_before n (true ∷ bs) q h =
    set.contains-insert nat_cmp_total (places_from (suc n) bs) n q
    ∙ ap (λ b. b || set.contains (places_from (suc n) bs) q) (differs q n (λ e. absurd (omega (arith, e))))
    ∙ none_before (suc n) bs q (omega arith)
none_before n (false ∷ bs) q h = none_before (suc n) bs q (omega arith)

contains_at : (n : ℕ) (bs : List Bool) (k q : ℕ) → q ≡ n + k → set.contains (places_from n bs) q ≡ get_or bs k false
contains_at n [] k q e = set.contains-empty nat_cmp q
contains_at n (true ∷ bs) zero q e =
    set.contains-insert nat_cmp_total (places_from (suc n) bs) n q
    ∙ ap (λ b. b || set.contains (places_from (suc n) bs) q) (itself q n (omega (arith, e)))
contains_at n (true ∷ bs) (suc k) q e =
    set.contains-insert nat_cmp_total (places_from (suc n) bs) n q
    ∙ ap (λ b. b || set.contains (places_from (suc n) bs) q) (differs q n (λ same. absurd (omega (arith, e, same))))
    ∙ contains_at (suc n) bs k q (omega (arith, e))
contains_at n (false ∷ bs) zero q e = none_before (suc n) bs q (omega (arith, e))
contains_at n (false ∷ bs) (suc k) q e = contains_at (suc n) bs k q (omega (arith, e))

-- a place is in the set where the list has true there
pub contains-places : (bs : List Bool) (q : ℕ) → set.contains (places_from 0 bs) q ≡ get_or bs q false
contains-places bs q = contains_at 0 bs q q (omega arith)

-- ---- values

found_before : (n : ℕ) (os : List (Option (List ℕ))) (q : ℕ) → q < n → fin.get (values_from n os) q ≡ None
found_before n [] q h = fin.get-empty nat_cmp q
found_before n (Some v ∷ os) q h =
    fin.get-insert nat_cmp_total (values_from (suc n) os) n v q
    ∙ ap (λ b. cond b (Some v) (fin.get (values_from (suc n) os) q)) (differs q n (λ e. absurd (omega (arith, e))))
    ∙ found_before (suc n) os q (omega arith)
found_before n (None ∷ os) q h = found_before (suc n) os q (omega arith)

get_at : (n : ℕ) (os : List (Option (List ℕ))) (k q : ℕ) → q ≡ n + k → fin.get (values_from n os) q ≡ get_or os k None
get_at n [] k q e = fin.get-empty nat_cmp q
get_at n (Some v ∷ os) zero q e =
    fin.get-insert nat_cmp_total (values_from (suc n) os) n v q
    ∙ ap (λ b. cond b (Some v) (fin.get (values_from (suc n) os) q)) (itself q n (omega (arith, e)))
get_at n (Some v ∷ os) (suc k) q e =
    fin.get-insert nat_cmp_total (values_from (suc n) os) n v q
    ∙ ap (λ b. cond b (Some v) (fin.get (values_from (suc n) os) q)) (differs q n (λ same. absurd (omega (arith, e, same))))
    ∙ get_at (suc n) os k q (omega (arith, e))
get_at n (None ∷ os) zero q e = found_before (suc n) os q (omega (arith, e))
get_at n (None ∷ os) (suc k) q e = get_at (suc n) os k q (omega (arith, e))

-- a place has the value that the list has there
pub get-values : (os : List (Option (List ℕ))) (q : ℕ) → fin.get (values_from 0 os) q ≡ get_or os q None
get-values os q = get_at 0 os q q (omega arith)

-- ---- writes and pushes

-- what stands at a place behind a write
module _ {X : Type 0} where
  written : (xs : List X) (i q : ℕ) (y d : X) → i < length xs → get_or (slice_set xs i y) q d ≡ cond (nat_eq q i) y (get_or xs q d)
  written xs i q y d h =
      elim (nat_eq q i) as (λ b. nat_eq q i ≡ b → get_or (slice_set xs i y) q d ≡ cond b y (get_or xs q d)) [
        | true ↦ λ e. let same : q ≡ i = grind (arith, nat_tests) in subst (λ j. get_or (slice_set xs i y) j d ≡ y) (sym same) (get_or-set_same xs i y d h)
        | false ↦ λ e. get_or-set_other xs i q y d (λ same. let t : nat_eq q i ≡ true = grind (arith, nat_tests) in cc)
      ] refl

  other : (xs : List X) (q : ℕ) (y d : X) → q ≢ length xs → get_or (xs ++ y ∷ []) q d ≡ get_or xs q d
  other [] zero y d h = absurd (h refl)
  other [] (suc q) y d h = refl
  other (x ∷ xs) zero y d h = refl
  other (x ∷ xs) (suc q) y d h = other xs q y d (λ e. h (ap suc e))

  pushed : (xs : List X) (q : ℕ) (y d : X) → get_or (xs ++ y ∷ []) q d ≡ cond (nat_eq q (length xs)) y (get_or xs q d)
  pushed xs q y d =
      elim (nat_eq q (length xs)) as (λ b. nat_eq q (length xs) ≡ b → get_or (xs ++ y ∷ []) q d ≡ cond b y (get_or xs q d)) [
        | true ↦ λ e. let same : q ≡ length xs = grind (arith, nat_tests) in subst (λ j. get_or (xs ++ y ∷ []) j d ≡ y) (sym same) (get_or-append_seam xs y [] d)
        | false ↦ λ e. let apart : q ≢ length xs = λ same. let t : nat_eq q (length xs) ≡ true = grind (arith, nat_tests) in cc in other xs q y d apart
      ] refl

abbrev same_conns : (s t : Conns) → ((q : ℕ) → set.contains s q ≡ set.contains t q) → s ≡ t
same_conns s t h = set.same_set nat_cmp_total set.nat_cmp-IsAntisymmetric s t h

or_cond : (b x : Bool) → cond b true x ≡ (b || x)
or_cond true x = refl
or_cond false x = refl

and_cond : (b x : Bool) → cond b false x ≡ (not b && x)
and_cond true x = refl
and_cond false x = refl

false_cond : (b : Bool) (x : Bool) → (b ≡ true → x ≡ false) → cond b false x ≡ x
false_cond true x h = sym (h refl)
false_cond false x h = refl

-- true at a place
pub set_true : (bs : List Bool) (i : ℕ) → i < length bs → places_from 0 (slice_set bs i true) ≡ set.insert (places_from 0 bs) i
set_true bs i h = same_conns _ _ (λ q.
    contains-places (slice_set bs i true) q ∙ written bs i q true false h ∙ or_cond (nat_eq q i) (get_or bs q false)
    ∙ sym (set.contains-insert nat_cmp_total (places_from 0 bs) i q ∙ ap (λ b. b || set.contains (places_from 0 bs) q) (tied q i) ∙ ap (λ x. nat_eq q i || x) (contains-places bs q)))

-- false at a place
pub set_false : (bs : List Bool) (i : ℕ) → i < length bs → places_from 0 (slice_set bs i false) ≡ set.remove (places_from 0 bs) i
set_false bs i h = same_conns _ _ (λ q.
    contains-places (slice_set bs i false) q ∙ written bs i q false false h ∙ and_cond (nat_eq q i) (get_or bs q false)
    ∙ sym (set.contains-remove nat_cmp_total (places_from 0 bs) i q ∙ ap (λ b. not b && set.contains (places_from 0 bs) q) (tied q i) ∙ ap (λ x. not (nat_eq q i) && x) (contains-places bs q)))

-- a place behind the list is in no set
pub remove_behind : (bs : List Bool) (i : ℕ) → length bs ≤ i → places_from 0 bs ≡ set.remove (places_from 0 bs) i
remove_behind bs i h = same_conns _ _ (λ q.
    contains-places bs q
    ∙ sym (false_cond (nat_eq q i) (get_or bs q false) (λ e. let same : q ≡ i = grind (arith, nat_tests) in get_or_past bs q false (omega (arith, same))))
    ∙ and_cond (nat_eq q i) (get_or bs q false)
    ∙ sym (set.contains-remove nat_cmp_total (places_from 0 bs) i q ∙ ap (λ b. not b && set.contains (places_from 0 bs) q) (tied q i) ∙ ap (λ x. not (nat_eq q i) && x) (contains-places bs q)))

-- true behind the list
pub push_true : (bs : List Bool) → places_from 0 (bs ++ true ∷ []) ≡ set.insert (places_from 0 bs) (length bs)
push_true bs = same_conns _ _ (λ q.
    contains-places (bs ++ true ∷ []) q ∙ pushed bs q true false ∙ or_cond (nat_eq q (length bs)) (get_or bs q false)
    ∙ sym (set.contains-insert nat_cmp_total (places_from 0 bs) (length bs) q ∙ ap (λ b. b || set.contains (places_from 0 bs) q) (tied q (length bs)) ∙ ap (λ x. nat_eq q (length bs) || x) (contains-places bs q)))

-- false behind the list
pub push_false : (bs : List Bool) → places_from 0 (bs ++ false ∷ []) ≡ places_from 0 bs
push_false bs = same_conns _ _ (λ q.
    contains-places (bs ++ false ∷ []) q ∙ pushed bs q false false
    ∙ false_cond (nat_eq q (length bs)) (get_or bs q false) (λ e. let same : q ≡ length bs = grind (arith, nat_tests) in get_or_past bs q false (omega (arith, same)))
    ∙ sym (contains-places bs q))

none_cond : {X : Type 0} (b : Bool) (x : Option X) → (b ≡ true → x ≡ None) → cond b None x ≡ x
none_cond true x h = sym (h refl)
none_cond false x h = refl

-- a value at a place
pub set_value : (os : List (Option (List ℕ))) (i : ℕ) (v : List ℕ) → i < length os → values_from 0 (slice_set os i (Some v)) ≡ fin.insert (values_from 0 os) i v
set_value os i v h = fin.same_map nat_cmp_total fin.nat_cmp-IsAntisymmetric _ _ (λ q.
    get-values (slice_set os i (Some v)) q ∙ written os i q (Some v) None h
    ∙ sym (fin.get-insert nat_cmp_total (values_from 0 os) i v q ∙ ap (λ b. cond b (Some v) (fin.get (values_from 0 os) q)) (tied q i) ∙ ap (cond (nat_eq q i) (Some v)) (get-values os q)))

-- no value behind the list
pub push_none : (os : List (Option (List ℕ))) → values_from 0 (os ++ None ∷ []) ≡ values_from 0 os
push_none os = fin.same_map nat_cmp_total fin.nat_cmp-IsAntisymmetric _ _ (λ q.
    get-values (os ++ None ∷ []) q ∙ pushed os q None None
    ∙ none_cond (nat_eq q (length os)) (get_or os q None) (λ e. let same : q ≡ length os = grind (arith, nat_tests) in get_or_past os q None (omega (arith, same)))
    ∙ sym (get-values os q))
