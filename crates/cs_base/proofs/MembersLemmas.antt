-- A list that strictly ascends in an order and has the members of a set is the set's listing.
--
--   members_are        the lemma itself
--   sorted_members     what sorting and then dropping repeats leaves is the listing
--   members-alike      lists with the same members have the same listing
--   is_member-listed   a member of the listing is a member of the set
--   listing-rises      a listing strictly ascends, as the keys of each finite map do (keys-rise)
--   none_listed        of no members the listing is empty
--   any_listed         some member of a listing passes a test where some member of the list does
--   all_then           what follows for one follows for each of a list
--   filter_listed      some members of a listing, picked by a test, are a listing
use Rattle.std.proofs.Common.{◌≡◌, Bool, true, false, ◌&&◌, ◌||◌, List, [], ◌∷◌, T, cond, refl, sym, ◌∙◌, ap, subst, true≢false}
use Rattle.std.specs.Prelude.{Option, Some, None, map}
use Rattle.std.specs.Option.{is_some}
use Rattle.std.specs.List.{list_any, filter, AllByRecursion, dedup, dedup_from}
use Rattle.std.specs.List.Retain.{IsFiltered, DiffersFromLast}
use Rattle.std.specs.List.Sorted.{IsStrictlySortedBy, IsSorted, IsPermutation}
use Rattle.std.specs.Ordering.{eq_by_cmp, is_lt}
use Rattle.std.specs.declared.cmp.Ordering.{Ordering}
use Rattle.std.specs.declared.cmp.Ordering.TheVariants.{Less, Equal, Greater}
use Rattle.std.specs.Cmp.{IsTotalOrder, Equal-is, tied_itself, both_ways}
use Rattle.std.proofs.lemmas.Bool.{or_right}
use Rattle.std.proofs.lemmas.List.Sorted.{list_any-IsPermutation}
use Rattle.std.proofs.lemmas.List.Kept.{IsStrictlySortedBy-dedup, IsStrictlySortedBy-filter}
use Rattle.std.proofs.lemmas.List.Filters.{dedup_is}
use Rattle.std.specs.FinMap.{FinMap, entries, entries_sorted, find, is_sorted, keys, from_entries, from_sorted, IsAntisymmetric, same_map, get-from_entries, get-from_sorted, entries-from_sorted, contains_key-keys}
use Rattle.std.specs.FinMap.Entries.{below_all}
use Rattle.cs_base.specs.content.Members.{marked, members_in}

pub all_then : {X : Type 0} (P Q : X → Type 0) → ((x : X) → P x → Q x) → (xs : List X) → AllByRecursion P xs → AllByRecursion Q xs
all_then P Q f [] h = tt
all_then P Q f (x ∷ xs) h = (f x h.0, all_then P Q f xs h.1)

abbrev mark_if : Bool → Option (Unit {0})
mark_if b = cond b (Some tt) None

some_mark_if : (b : Bool) → is_some (mark_if b) ≡ b
some_mark_if true = refl
some_mark_if false = refl

module _ {X : Type 0} (R : X → X → Ordering) where
  find_marked : (xs : List X) (q : X) → find R q (map marked xs) ≡ cond (list_any (eq_by_cmp R q) xs) (Some tt) None
  find_marked [] q = refl
  find_marked (x ∷ xs) q =
      elim (eq_by_cmp R q x) as (λ b. cond b (Some tt) (find R q (map marked xs)) ≡ cond (b || list_any (eq_by_cmp R q) xs) (Some tt) None) [
        | true ↦ refl
        | false ↦ find_marked xs q
      ]

  keys_marked : (xs : List X) → map (λ e. e.0) (map marked xs) ≡ xs
  keys_marked [] = refl
  keys_marked (x ∷ xs) = ap (λ l. x ∷ l) (keys_marked xs)

  both : (a b : Bool) → T a → T b → T (a && b)
  both true b p q = q
  both false b p q = p

  below_marked : (x : X) (xs : List X) → AllByRecursion (λ y. R x y ≡ Less) xs → T (below_all R x (map marked xs))
  below_marked x [] h = tt
  below_marked x (y ∷ xs) h = both _ _ (subst (λ o. T (is_lt o)) (sym h.0) tt) (below_marked x xs h.1)

  sorted_marked : (xs : List X) → IsStrictlySortedBy R xs → T (is_sorted R (map marked xs))
  unfolding IsStrictlySortedBy
  sorted_marked [] h = tt
  sorted_marked (x ∷ xs) h = both _ _ (below_marked x xs h.0) (sorted_marked xs h.1)

  -- the one lemma behind every sorted answer
  pub members_are : IsTotalOrder R → IsAntisymmetric R → (xs ys : List X) → IsStrictlySortedBy R xs → ((q : X) → list_any (eq_by_cmp R q) xs ≡ list_any (eq_by_cmp R q) ys) → xs ≡ members_in R ys
  members_are o exact xs ys up alike =
      let rising = sorted_marked xs up in
      let one : from_entries {R = R} (map marked ys) ≡ from_sorted (map marked xs) = same_map o exact _ _ (λ q.
      get-from_entries o (map marked ys) q ∙ find_marked ys q ∙ ap (λ b. cond b (Some tt) None) (sym (alike q))
      ∙ sym (get-from_sorted R (map marked xs) q rising ∙ find_marked xs q)) in
      sym (ap keys one ∙ ap (map (λ e. e.0)) (entries-from_sorted R (map marked xs) rising) ∙ keys_marked xs)

  -- a list that strictly ascends is its own listing
  pub listed_itself : IsTotalOrder R → IsAntisymmetric R → (xs : List X) → IsStrictlySortedBy R xs → xs ≡ members_in R xs
  listed_itself o exact xs up = members_are o exact xs xs up (λ q. refl)

  -- lists with the same members have the same listing
  pub members-alike : IsTotalOrder R → IsAntisymmetric R → (xs ys : List X) → ((q : X) → list_any (eq_by_cmp R q) xs ≡ list_any (eq_by_cmp R q) ys) → members_in R xs ≡ members_in R ys
  members-alike o exact xs ys alike =
      ap keys (same_map o exact (from_entries {R = R} (map marked xs)) (from_entries {R = R} (map marked ys)) (λ q.
      get-from_entries o (map marked xs) q ∙ find_marked xs q ∙ ap (λ b. cond b (Some tt) None) (alike q)
      ∙ sym (get-from_entries o (map marked ys) q ∙ find_marked ys q)))

  none_rise : IsStrictlySortedBy R []
  unfolding IsStrictlySortedBy
  none_rise = tt

  -- of no members the listing is empty
  pub none_listed : IsTotalOrder R → IsAntisymmetric R → [] ≡ members_in R []
  none_listed o exact = listed_itself o exact [] none_rise

  -- the members of the listing are those of the list
  pub is_member-listed : IsTotalOrder R → (xs : List X) (q : X) → list_any (eq_by_cmp R q) (members_in R xs) ≡ list_any (eq_by_cmp R q) xs
  is_member-listed o xs q =
      sym (contains_key-keys (from_entries {R = R} (map marked xs)) q)
      ∙ ap is_some (get-from_entries o (map marked xs) q ∙ find_marked xs q) ∙ some_mark_if (list_any (eq_by_cmp R q) xs)

  first_part : (a b : Bool) → T (a && b) → T a
  first_part true b h = tt
  first_part false b h = h

  second_part : (a b : Bool) → T (a && b) → T b
  second_part true b h = h
  second_part false b h = absurd h

  less_is : (r : Ordering) → T (is_lt r) → r ≡ Less
  less_is Less h = refl
  less_is Equal h = absurd h
  less_is Greater h = absurd h

  all_below : {Y : Type 0} (x : X) (es : List (X × Y)) → T (below_all R x es) → AllByRecursion (λ y. R x y ≡ Less) (map (λ e. e.0) es)
  all_below x [] h = tt
  all_below x (e ∷ es) h = (less_is (R x e.0) (first_part _ _ h), all_below x es (second_part _ _ h))

  rising_keys : {Y : Type 0} (es : List (X × Y)) → T (is_sorted R es) → IsStrictlySortedBy R (map (λ e. e.0) es)
  unfolding IsStrictlySortedBy
  rising_keys [] h = tt
  rising_keys (e ∷ es) h = (all_below e.0 es (first_part _ _ h), rising_keys es (second_part _ _ h))

  -- the keys of a finite map strictly ascend
  pub keys-rise : {Y : Type 0} (m : FinMap R Y) → IsStrictlySortedBy R (keys m)
  keys-rise m = rising_keys (entries m) (entries_sorted m)

  -- a listing strictly ascends
  pub listing-rises : (xs : List X) → IsStrictlySortedBy R (members_in R xs)
  listing-rises xs = keys-rise (from_entries {R = R} (map marked xs))

  -- some of the members of a listing, picked by a test, are a listing
  pub filter_listed : IsTotalOrder R → IsAntisymmetric R → (p : X → Bool) (xs : List X) → filter p (members_in R xs) ≡ members_in R (filter p (members_in R xs))
  filter_listed o exact p xs = listed_itself o exact (filter p (members_in R xs)) (IsStrictlySortedBy-filter R p (members_in R xs) (listing-rises xs))

-- ---- tests of members
module _ {X : Type 0} (R : X → X → Ordering) (o : IsTotalOrder R) (exact : IsAntisymmetric R) where
  any_at : (t : X → Bool) (x : X) (ys : List X) → t x ≡ true → list_any (eq_by_cmp R x) ys ≡ true → list_any t ys ≡ true
  any_at t x [] e m = absurd (true≢false (sym m))
  any_at t x (y ∷ ys) e m =
      elim (eq_by_cmp R x y) as (λ s. eq_by_cmp R x y ≡ s → (s || list_any (eq_by_cmp R x) ys) ≡ true → (t y || list_any t ys) ≡ true) [
        | true ↦ λ s _. ap (λ z. t z || list_any t ys) (sym (exact x y ((Equal-is (R x y)).0 s))) ∙ ap (λ b. b || list_any t ys) e
        | false ↦ λ s r. or_right (t y) _ (any_at t x ys e r)
      ] refl m

  any_among : (t : X → Bool) (xs ys : List X) → ((q : X) → list_any (eq_by_cmp R q) xs ≡ true → list_any (eq_by_cmp R q) ys ≡ true) → list_any t xs ≡ true → list_any t ys ≡ true
  any_among t [] ys h e = absurd (true≢false (sym e))
  any_among t (x ∷ xs) ys h e =
      elim (t x) as (λ s. t x ≡ s → (s || list_any t xs) ≡ true → list_any t ys ≡ true) [
        | true ↦ λ s _. any_at t x ys s (h x (ap (λ b. b || list_any (eq_by_cmp R x) xs) ((Equal-is (R x x)).1 (tied_itself o x))))
        | false ↦ λ s r. any_among t xs ys (λ q m. h q (or_right (eq_by_cmp R q x) _ m)) r
      ] refl e

  -- a test passes on a listing where it does on the list
  pub any_listed : (t : X → Bool) (xs : List X) → list_any t (members_in R xs) ≡ list_any t xs
  any_listed t xs =
      both_ways _ _
      (any_among t (members_in R xs) xs (λ q m. sym (is_member-listed R o xs q) ∙ m))
      (any_among t xs (members_in R xs) (λ q m. is_member-listed R o xs q ∙ m))

-- a test that is made twice counts once
pub again : (a b : Bool) → (a || b) ≡ (a || (a || b))
again true b = refl
again false b = refl

module _ {X : Type 0} {R : X → X → Ordering} (o : IsTotalOrder R) (exact : IsAntisymmetric R) (E : X → X → Bool) (ties : (x y : X) → E x y ≡ eq_by_cmp R x y) where
  one_of : (q k x : X) (b : Bool) → E x k ≡ true → (eq_by_cmp R q k || b) ≡ (eq_by_cmp R q k || (eq_by_cmp R q x || b))
  one_of q k x b same =
      let xk : x ≡ k = exact x k ((Equal-is (R x k)).0 (sym (ties x k) ∙ same)) in
      subst (λ y. (eq_by_cmp R q k || b) ≡ (eq_by_cmp R q k || (eq_by_cmp R q y || b))) (sym xk) (again (eq_by_cmp R q k) b)

  any_dedup_from : (q k : X) (xs : List X) → list_any (eq_by_cmp R q) (dedup_from E k xs) ≡ list_any (eq_by_cmp R q) (k ∷ xs)
  any_dedup_from q k [] = refl
  any_dedup_from q k (x ∷ xs) =
      elim (E x k) as (λ b. E x k ≡ b → list_any (eq_by_cmp R q) (cond b (dedup_from E k xs) (k ∷ dedup_from E x xs)) ≡ list_any (eq_by_cmp R q) (k ∷ x ∷ xs)) [
        | true ↦ λ same. any_dedup_from q k xs ∙ one_of q k x (list_any (eq_by_cmp R q) xs) same
        | false ↦ λ _. ap (λ b. eq_by_cmp R q k || b) (any_dedup_from q x xs)
      ] refl

  pub any_dedup : (q : X) (xs : List X) → list_any (eq_by_cmp R q) (dedup E xs) ≡ list_any (eq_by_cmp R q) xs
  any_dedup q [] = refl
  any_dedup q (x ∷ xs) = any_dedup_from q x xs

  -- what `sort` and then `dedup` leave
  pub sorted_members : (xs ys zs : List X) → IsPermutation xs ys → IsSorted R ys → IsFiltered (DiffersFromLast E) [] ys zs → zs ≡ members_in R xs
  sorted_members xs ys zs moved up kept =
      dedup_is E ys zs kept
      ∙ members_are R o exact (dedup E ys) xs (IsStrictlySortedBy-dedup o ties ys up) (λ q. any_dedup q ys ∙ sym (list_any-IsPermutation (eq_by_cmp R q) xs ys moved))
