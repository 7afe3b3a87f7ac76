-- One document put in its place in the list of the best.
--
--   place-insert    the place of an entry, as a search tells it
--   place-tied      an entry that is there has its place already
--   few_listed      a set has no more members than were named
--   none_first      of no documents there is no best one
--   first_again     the best of the best are these
--   few             there are no more of them than the room
--   searchable      a search in the list of the best tells a place
--   stands          what is offered and stands there changes nothing
--   behind          nor does what comes behind so many
--   put_in          what is put in its place, where the last was let go
--   shown           what is shown of the best
use Rattle.std.proofs.Common.{◌≡◌, ℕ, false, zero, suc, ◌≤◌, ◌<◌, ◌+◌, ◌-◌, List, [], ◌∷◌, ◌++◌, length, take, drop, get_or, take_all, refl, sym, ◌∙◌, ap, subst, arith}
use Rattle.std.specs.Prelude.{map, insert, min}
use Rattle.std.specs.List.{AllWithin, HoldsAt}
use Rattle.std.specs.List.Sorted.{IsStrictlySortedBy, IsSorted, IsNonDecreasingBy, IsPartitionPoint}
use Rattle.std.specs.Ordering.{is_lt, ordering_reverse, ordering_index}
use Rattle.std.specs.declared.cmp.Ordering.{Ordering}
use Rattle.std.specs.declared.cmp.Ordering.TheVariants.{Less, Equal, Greater}
use Rattle.std.specs.Cmp.{IsTotalOrder, alike_right}
use Rattle.std.specs.FinMap.{IsAntisymmetric, entries, from_entries, entries-insert}
use Rattle.std.specs.FinMap.Entries.{by_order}
use Rattle.std.proofs.lemmas.List.{length-take, drop-take}
use Rattle.std.proofs.lemmas.List.Sorted.{searchable_from_sorted}
use Rattle.cs_base.specs.content.Members.{marked, members_in}
use Rattle.cs_base.specs.content.Orders.{by_rank}
use Rattle.cs_base.specs.declared.content.doc.Scored.{Scored}
use Rattle.cs_base.proofs.OrdersLemmas.{by_rank_total, by_rank_exact}
use Rattle.cs_base.proofs.MembersLemmas.{listing-rises, none_listed}
use Rattle.cs_rank.specs.Kept.{first_of}
use Rattle.cs_rank.proofs.ScorePlaces.{place, pushed, picked, keys_put, take_again, take_rises}
use Rattle.cs_rank.proofs.KeptLemmas.{itself}

module _ {X : Type 0} (R : X → X → Ordering) (o : IsTotalOrder R) where
  flipped : (x s : X) (r : Ordering) → R x s ≡ r → R s x ≡ ordering_reverse r
  flipped x s r e = o.antisymm s x ∙ ap ordering_reverse e

  pub place-insert : (i : ℕ) (s : X) (xs : List X) → i ≤ length xs → AllWithin (λ y. R y s ≡ Less) xs 0 i → AllWithin (λ y. R y s ≡ Greater) xs i (length xs) → place R s xs ≡ insert xs i s
  place-insert zero s [] le low high = refl
  place-insert (suc i) s [] le low high = absurd (omega arith)
  place-insert zero s (x ∷ xs) le low high = ap (λ r. by_order r (s ∷ x ∷ xs) (x ∷ xs) (x ∷ place R s xs)) (flipped x s Greater (high 0 x (omega arith) (omega arith)))
  place-insert (suc i) s (x ∷ xs) le low high =
      ap (λ r. by_order r (s ∷ x ∷ xs) (x ∷ xs) (x ∷ place R s xs)) (flipped x s Less (low 0 x (omega arith) (omega arith)))
      ∙ ap (λ l. x ∷ l) (place-insert i s xs (omega arith) (λ k d a b. low (suc k) d (omega arith) (omega arith)) (λ k d a b. high (suc k) d (omega arith) (omega arith)))

  pub place-tied : (i : ℕ) (s : X) (xs : List X) → i < length xs → IsStrictlySortedBy R xs → HoldsAt (λ y. R y s ≡ Equal) xs i → place R s xs ≡ xs
  unfolding IsStrictlySortedBy
  place-tied i s [] lt up h = absurd (omega arith)
  place-tied zero s (x ∷ xs) lt up h = ap (λ r. by_order r (s ∷ x ∷ xs) (x ∷ xs) (x ∷ place R s xs)) (flipped x s Equal (h x))
  place-tied (suc i) s (x ∷ xs) lt up h =
      let before : R x s ≡ Less = sym (alike_right o (get_or xs i x) s x (h x)) ∙ picked R (λ z. R x z ≡ Less) xs i x up.0 (omega arith) in
      ap (λ r. by_order r (s ∷ x ∷ xs) (x ∷ xs) (x ∷ place R s xs)) (flipped x s Less before)
      ∙ ap (λ l. x ∷ l) (place-tied i s xs (omega arith) up.1 (λ d. h d))

  one_longer : (s : X) (xs : List X) → length (place R s xs) ≤ suc (length xs)
  one_longer s [] = omega arith
  one_longer s (x ∷ xs) =
      let ih = one_longer s xs in
      elim (R s x) as (λ r. length (by_order r (s ∷ x ∷ xs) (x ∷ xs) (x ∷ place R s xs)) ≤ suc (suc (length xs))) [
        | Less ↦ omega arith
        | Equal ↦ omega arith
        | Greater ↦ omega arith
      ]

  pub few_listed : IsAntisymmetric R → (xs : List X) → length (members_in R xs) ≤ length xs
  few_listed exact [] = let none = ap length (none_listed R o exact) in omega arith
  few_listed exact (x ∷ xs) =
      let more : members_in R (x ∷ xs) ≡ place R x (members_in R xs) = ap (map (λ e. e.0)) (entries-insert o (from_entries (map marked xs)) x tt) ∙ keys_put R x (entries (from_entries {R = R} (map marked xs))) in
      let ih = few_listed exact xs in
      let one = one_longer x (members_in R xs) in
      let same = ap length more in
      omega arith

  adjacent : (xs : List X) (k : ℕ) (d : X) → IsStrictlySortedBy R xs → suc k < length xs → R (get_or xs k d) (get_or xs (suc k) d) ≡ Less
  unfolding IsStrictlySortedBy
  adjacent [] k d up lt = absurd (omega arith)
  adjacent (x ∷ xs) zero d up lt = picked R (λ z. R x z ≡ Less) xs 0 d up.0 (omega arith)
  adjacent (x ∷ xs) (suc k) d up lt = adjacent xs k d up.1 (omega arith)

  sorted : (xs : List X) → IsStrictlySortedBy R xs → IsSorted R xs
  sorted xs up = λ k d a b.
      subst (λ n. is_lt (R (get_or xs n d) (get_or xs k d)) ≡ false) {x = suc k} {y = k + 1} (omega arith)
      (ap is_lt (flipped (get_or xs k d) (get_or xs (suc k) d) Less (adjacent xs k d up (omega arith))))

module _ {X : Type 0} where
  insert-cut : (m i : ℕ) (s : X) (xs : List X) → i ≤ m → i ≤ length xs → insert (take m xs) i s ≡ take (suc m) (insert xs i s)
  insert-cut m zero s xs a b = refl
  insert-cut zero (suc i) s xs a b = absurd (omega arith)
  insert-cut (suc m) (suc i) s [] a b = absurd (omega arith)
  insert-cut (suc m) (suc i) s (x ∷ xs) a b = ap (λ l. x ∷ l) (insert-cut m i s xs (omega arith) (omega arith))

  insert-behind : (n i : ℕ) (s : X) (xs : List X) → n ≤ i → i ≤ length xs → length xs ≤ n → take n (insert xs i s) ≡ xs
  insert-behind zero i s [] a b c = refl
  insert-behind zero i s (x ∷ xs) a b c = absurd (omega arith)
  insert-behind (suc n) zero s xs a b c = absurd (omega arith)
  insert-behind (suc n) (suc i) s [] a b c = absurd (omega arith)
  insert-behind (suc n) (suc i) s (x ∷ xs) a b c = ap (λ l. x ∷ l) (insert-behind n i s xs (omega arith) (omega arith) (omega arith))

  cut_alike : (n m : ℕ) (xs : List X) → length xs ≤ n → take (min n m) xs ≡ take m xs
  cut_alike n m [] h = take_all (min n m) [] (omega arith) ∙ sym (take_all m [] (omega arith))
  cut_alike zero m (x ∷ xs) h = absurd (omega arith)
  cut_alike (suc n) zero (x ∷ xs) h = ap (λ k. take k (x ∷ xs)) (let none : min (suc n) 0 ≡ 0 = omega arith in none)
  cut_alike (suc n) (suc m) (x ∷ xs) h =
      ap (λ k. take k (x ∷ xs)) (let one : min (suc n) (suc m) ≡ suc (min n m) = omega arith in one) ∙ ap (λ l. x ∷ l) (cut_alike n m xs (omega arith))

pub none_first : (room : ℕ) → [] ≡ first_of room []
none_first room = sym (take_all room [] (omega arith)) ∙ ap (take room) (none_listed by_rank by_rank_total by_rank_exact)

pub first_again : (room : ℕ) (xs : List Scored) → first_of room xs ≡ first_of room (first_of room xs)
first_again room xs = sym (take_again by_rank room (members_in by_rank xs)) ∙ ap (take room) (itself room xs)

-- the list of the best is its own listing, in its order, and no longer than its room
module _ (room : ℕ) (xs : List Scored) (own : xs ≡ first_of room xs) where
  listed : xs ≡ members_in by_rank xs
  listed = own ∙ itself room xs ∙ ap (members_in by_rank) (sym own)

  rises : IsStrictlySortedBy by_rank xs
  rises = subst (IsStrictlySortedBy by_rank) (sym own) (take_rises by_rank room _ (listing-rises by_rank xs))

  pub few : length xs ≤ room
  few = let is = ap length own in let cut = length-take room (members_in by_rank xs) in omega arith

  with_one : (s : Scored) → first_of room (xs ++ s ∷ []) ≡ take room (place by_rank s xs)
  with_one s = ap (take room) (pushed by_rank by_rank_total by_rank_exact xs s) ∙ ap (λ l. take room (place by_rank s l)) (sym listed)

  pub stands : (i : ℕ) (s : Scored) → i < length xs → HoldsAt (λ y. by_rank y s ≡ Equal) xs i → xs ≡ first_of room (xs ++ s ∷ [])
  stands i s lt h = sym (with_one s ∙ ap (take room) (place-tied by_rank by_rank_total i s xs lt rises h) ∙ take_all room xs few)

  pub searchable : (s : Scored) → IsNonDecreasingBy (λ y. ordering_index (by_rank y s)) xs
  searchable s = searchable_from_sorted by_rank_total (λ y. y) xs s (sorted by_rank by_rank_total xs rises)

  -- the place that a search tells of a document that isn't there
  module _ (i : ℕ) (s : Scored) (le : i ≤ length xs) (point : IsPartitionPoint (λ y. by_rank y s ≡ Less) (λ y. by_rank y s ≡ Greater) xs i) where
    at_point : first_of room (xs ++ s ∷ []) ≡ take room (insert xs i s)
    at_point = with_one s ∙ ap (take room) (place-insert by_rank by_rank_total i s xs le point.0 point.1)

    pub behind : room ≤ i → xs ≡ first_of room (xs ++ s ∷ [])
    behind past = sym (at_point ∙ insert-behind room i s xs past le few)

    pub put_in : (kept now : List Scored) → i < room → kept ≡ take (room - 1) xs → now ≡ insert kept i s → now ≡ first_of room (xs ++ s ∷ [])
    put_in kept now inside cut is =
        is ∙ ap (λ l. insert l i s) cut ∙ insert-cut (room - 1) i s xs (omega arith) le
        ∙ ap (λ n. take n (insert xs i s)) (let on : suc (room - 1) ≡ room = omega arith in on)
        ∙ sym at_point

pub shown : (o h : ℕ) (scored : List Scored) → drop o (first_of (min (length scored) (o + h)) scored) ≡ take h (drop o (members_in by_rank scored))
shown o h scored =
    ap (drop o) (cut_alike (length scored) (o + h) (members_in by_rank scored) (few_listed by_rank by_rank_total by_rank_exact scored))
    ∙ drop-take o h (members_in by_rank scored)
