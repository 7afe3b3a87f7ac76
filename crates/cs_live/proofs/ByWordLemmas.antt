-- Rows in memory in the order of their words.
--
--   swapped             two tests in either order
--   all_by, all_back    what holds of all rows in one order holds of all in the other
--   any_by              some row passes a test in both or in neither
--   placed              rows in order of place are the listing of those by word
--   none_by             no rows
--   kept_by             the rows that pass a test
--   moved_by            with the numbers that their words have among more words, and rows behind them
--   stable_each, moved_same    what a stable sort by words leaves
--   countable_by        posts behind others can be counted by word where they can in order of place
--   cut_is              the rows of a range of words lie together
use Rattle.std.proofs.Common.{◌≡◌, ℕ, zero, suc, ◌+◌, ◌<◌, ◌≤◌, ◌==◌, ◌&&◌, ◌||◌, Bool, true, false, true≢false, cond, List, [], ◌∷◌, ◌++◌, length, get_or, take, drop, map}
use Rattle.std.proofs.Common.{refl, sym, ap, ap₂, subst, ◌∙◌, ◌⊎◌, inl, inr, arith, append-nil, get_or-drop, get_or-take, length-append, length-drop, length-take, take-append-drop}
use Rattle.std.specs.Prelude.{All, filter, nat_le, nat_lt}
use Rattle.std.specs.List.{AllByRecursion, list_any}
use Rattle.std.specs.List.Sorted.{IsNonDecreasingBy, IsPartitionPoint, IsPermutation, IsStableByKey, IsStrictlySortedBy, ties}
use Rattle.std.specs.Ordering.{eq_by_cmp, is_lt, nat_cmp, ordering_then}
use Rattle.std.specs.declared.cmp.Ordering.TheVariants.{Less}
use Rattle.std.proofs.Math.Bool.{and_comm}
use Rattle.std.proofs.lemmas.Bool.Decides.{nat_tests}
use Rattle.std.proofs.lemmas.List.{length-map}
use Rattle.std.proofs.lemmas.List.Elements.{All-filter, All-from_recursion, filter-append, recursion_from_All}
use Rattle.std.proofs.lemmas.List.Kept.{IsNonDecreasingBy-filter}
use Rattle.std.proofs.lemmas.List.Sorted.{sum_by-IsPermutation}
use Rattle.std.proofs.lemmas.List.Sums.{length-filter}
use Rattle.std.proofs.lemmas.Map.Keys.{Less-from_sorted}
use Rattle.cs_base.specs.content.Members.{members_in}
use Rattle.cs_base.specs.content.Orders.{AreDocs, AreSorted, by_place}
use Rattle.cs_base.specs.declared.content.doc.Post.{Post}
use Rattle.cs_base.specs.declared.content.limits.TheConstants.{MAX_DOCS}
use Rattle.cs_base.proofs.ListsLemmas.{all_of, filter_alike, filter_through, filter_twice, itself, same_number}
use Rattle.cs_base.proofs.MembersLemmas.{all_then, members_are}
use Rattle.cs_base.proofs.OrdersLemmas.{lt-from_Less}
use Rattle.cs_tables.specs.TableListings.{with_word}
use Rattle.cs_tables.specs.WordCounts.{AreCountable}
use Rattle.cs_rows.specs.IndexReading.{by_post}
use Rattle.cs_rows.specs.Stocked.{is_between}
use Rattle.cs_rows.proofs.FoundLemmas.{stays}
use Rattle.cs_rows.proofs.StockLemmas.{by_post_exact, by_post_total}
use Rattle.cs_live.specs.States.{AreByWord, renumbered}

-- ---- tests that come in either order
pub swapped : (t u : Post → Bool) (xs : List Post) → filter u (filter t xs) ≡ filter t (filter u xs)
swapped t u xs =
    sym (filter_twice t u xs)
    ∙ filter_alike (λ x. t x && u x) (λ x. u x && t x) xs (all_of (λ x. (t x && u x) ≡ (u x && t x)) (λ x. and_comm (t x) (u x)) xs)
    ∙ filter_twice u t xs

none_pass : (t : Post → Bool) (xs : List Post) → AllByRecursion (λ p. t p ≡ false) xs → filter t xs ≡ []
none_pass t [] h = refl
none_pass t (x ∷ xs) h = ap (λ b. cond b (x ∷ filter t xs) (filter t xs)) h.0 ∙ none_pass t xs h.1

-- ---- what holds of all rows
first_of : (P : Post → Type 0) (b : Bool) (x : Post) (xs : List Post) → b ≡ true → AllByRecursion P (cond b (x ∷ xs) xs) → P x
first_of P true x xs e h = h.0
first_of P false x xs e h = absurd (true≢false (sym e))

rest_of : (P : Post → Type 0) (b : Bool) (x : Post) (xs : List Post) → AllByRecursion P (cond b (x ∷ xs) xs) → AllByRecursion P xs
rest_of P true x xs h = h.1
rest_of P false x xs h = h

-- word by word
word_by_word : (P : Post → Type 0) (xs : List Post) → ((w : ℕ) → AllByRecursion P (with_word w xs)) → AllByRecursion P xs
word_by_word P [] h = tt
word_by_word P (x ∷ xs) h = (
  first_of P (x.word == x.word) x (with_word x.word xs) (itself x.word) (h x.word),
  word_by_word P xs (λ w. rest_of P (x.word == w) x (with_word w xs) (h w)),
)

all_alike : (P : Post → Type 0) (xs ys : List Post) → ((w : ℕ) → with_word w ys ≡ with_word w xs) → All P xs → All P ys
all_alike P xs ys each h =
    All-from_recursion P ys (word_by_word P ys (λ w.
    recursion_from_All P (with_word w ys) (subst (All P) (sym (each w)) (All-filter (λ p. p.word == w) P xs h))))

pub all_by : (P : Post → Type 0) (held by : List Post) → AreByWord held by → All P held → All P by
all_by P held by h all = all_alike P held by h.each all

pub all_back : (P : Post → Type 0) (held by : List Post) → AreByWord held by → All P by → All P held
all_back P held by h all = all_alike P by held (λ w. sym (h.each w)) all

-- ---- some row
some_more : (n : ℕ) → true ≡ nat_lt 0 (suc n)
some_more n = grind (arith, nat_tests)

any_long : (t : Post → Bool) (xs : List Post) → list_any t xs ≡ nat_lt 0 (length (filter t xs))
any_long t [] = refl
any_long t (x ∷ xs) =
    elim (t x) as (λ b. (b || list_any t xs) ≡ nat_lt 0 (length (cond b (x ∷ filter t xs) (filter t xs)))) [
      | true ↦ some_more (length (filter t xs))
      | false ↦ any_long t xs
    ]

pub any_by : (t : Post → Bool) (held by : List Post) → AreByWord held by → list_any t by ≡ list_any t held
any_by t held by h = any_long t by ∙ ap (nat_lt 0) (h.same t) ∙ sym (any_long t held)

-- ---- in order of place
post_first : (p q : Post) → by_place p q ≡ Less → by_post p q ≡ Less
post_first p q e = ap (λ o. ordering_then o (nat_cmp p.score q.score)) e

posts_rise : (ps : List Post) → AreSorted ps → IsStrictlySortedBy by_post ps
unfolding IsStrictlySortedBy
posts_rise [] up = tt
posts_rise (p ∷ ps) up = (all_then (λ q. by_place p q ≡ Less) (λ q. by_post p q ≡ Less) (post_first p) ps up.0, posts_rise ps up.1)

pub placed : (held by : List Post) → AreSorted held → AreByWord held by → held ≡ members_in by_post by
placed held by up h =
    members_are by_post by_post_total by_post_exact held by (posts_rise held up) (λ q. sym (any_by (eq_by_cmp by_post q) held by h))

-- ---- no rows, and some of the rows
pub none_by : AreByWord [] []
none_by = record { ascending = λ i j d le lt. absurd (omega (arith, lt)); each = λ w. refl; same = λ t. refl }

pub kept_by : (t : Post → Bool) (held by : List Post) → AreByWord held by → AreByWord (filter t held) (filter t by)
kept_by t held by h = record {
  ascending = IsNonDecreasingBy-filter (λ p. p.word) t by h.ascending;
  each = λ w. swapped t (λ p. p.word == w) by ∙ ap (filter t) (h.each w) ∙ sym (swapped t (λ p. p.word == w) held);
  same = λ u. ap length (sym (filter_twice t u by)) ∙ h.same (λ p. t p && u p) ∙ ap length (filter_twice t u held);
}

-- ---- with other numbers of words
-- a number that passes, or none does
search_below : (u : ℕ → Bool) (n : ℕ) → ((m : ℕ) × (m < n) × (u m ≡ true)) ⊎ ((m : ℕ) → m < n → u m ≡ false)
search_below u zero = inr (λ m lt. absurd (omega (arith, lt)))
search_below u (suc n) =
    elim (u n) as (λ b. u n ≡ b → ((m : ℕ) × (m < suc n) × (u m ≡ true)) ⊎ ((m : ℕ) → m < suc n → u m ≡ false)) [
      | true ↦ λ e. inl (n, omega arith, e)
      | false ↦ λ e. elim (search_below u n) [
        | inl s ↦ inl (s.0, (let lt = s.1 in omega (arith, lt)), s.2)
        | inr none ↦ inr (λ m lt. elim (nat_lt m n) as (λ b. nat_lt m n ≡ b → u m ≡ false) [
          | true ↦ λ s. none m (grind (arith, nat_tests))
          | false ↦ λ s. let at : n ≡ m = grind (arith, nat_tests) in subst (λ k. u k ≡ false) at e
        ] refl)
      ]
    ] refl

abbrev IsOnlyOne : (ℕ → Bool) → ℕ → Type 0
IsOnlyOne u n = (x y : ℕ) → x < n → y < n → u x ≡ true → u y ≡ true → x ≡ y

-- where at most one passes, the test is whether it is that one
only_test : (u : ℕ → Bool) (n m : ℕ) → IsOnlyOne u n → m < n → u m ≡ true → (x : ℕ) → x < n → u x ≡ (x == m)
only_test u n m one lt e x l =
    elim (x == m) as (λ b. (x == m) ≡ b → u x ≡ b) [
      | true ↦ λ s. ap u (same_number x m s) ∙ e
      | false ↦ λ s. elim (u x) as (λ b. u x ≡ b → b ≡ false) [
        | true ↦ λ t. sym (ap (λ k. k == m) (one x m l lt t e) ∙ itself m) ∙ s
        | false ↦ λ t. refl
      ] refl
    ] refl

of_words : (u : ℕ → Bool) (n : ℕ) → IsOnlyOne u n → (held by : List Post) → AreByWord held by → All (λ p. p.word < n) by
    → filter (λ p. u p.word) by ≡ filter (λ p. u p.word) held
of_words u n one held by h below =
    let below_held = all_back (λ p. p.word < n) held by h below in
    let rec = λ (xs : List Post) (l : All (λ p. p.word < n) xs). recursion_from_All (λ p. p.word < n) xs l in
    elim (search_below u n) [
      | inl s ↦
          let is = λ (xs : List Post) (l : All (λ p. p.word < n) xs). filter_alike (λ p. u p.word) (λ p. p.word == s.0) xs
          (all_then (λ p. p.word < n) (λ p. u p.word ≡ (p.word == s.0)) (λ p lt. only_test u n s.0 one s.1 s.2 p.word lt) xs (rec xs l)) in
          is by below ∙ h.each s.0 ∙ sym (is held below_held)
      | inr none ↦
          let is = λ (xs : List Post) (l : All (λ p. p.word < n) xs). none_pass (λ p. u p.word) xs
          (all_then (λ p. p.word < n) (λ p. u p.word ≡ false) (λ p lt. none p.word lt) xs (rec xs l)) in
          is by below ∙ sym (is held below_held)
    ]

not_above : (first : List ℕ) → AreDocs first → (w x y : ℕ) → x < y → y < length first → (get_or first x 0 == w) ≡ true → (get_or first y 0 == w) ≡ true → ⊥
not_above first up w x y lt l e f =
    let less = lt-from_Less (get_or first x 0) (get_or first y 0) (Less-from_sorted nat_cmp first x y 0 up lt l) in
    let at = same_number (get_or first x 0) w e in
    let on = same_number (get_or first y 0) w f in
    omega (arith, less, at, on)

one_number : (first : List ℕ) → AreDocs first → (w : ℕ) → IsOnlyOne (λ n. get_or first n 0 == w) (length first)
one_number first up w x y l k e f =
    elim (nat_lt x y) as (λ b. nat_lt x y ≡ b → x ≡ y) [
      | true ↦ λ s. absurd (not_above first up w x y (grind (arith, nat_tests)) k e f)
      | false ↦ λ s. elim (nat_lt y x) as (λ b. nat_lt y x ≡ b → x ≡ y) [
        | true ↦ λ t. absurd (not_above first up w y x (grind (arith, nat_tests)) l f e)
        | false ↦ λ t. grind (arith, nat_tests)
      ] refl
    ] refl

module _ (first : List ℕ) (up : AreDocs first) (held by more new : List Post) (h : AreByWord held by) (below : All (λ p. p.word < length first) by) where
  moved_each : (w : ℕ) → with_word w (map (renumbered first) by ++ more) ≡ with_word w (map (renumbered first) held ++ more)
  moved_each w =
      let test : Post → Bool = λ p. p.word == w in
      let through = λ (xs : List Post). filter_through (renumbered first) test xs in
      filter-append test (map (renumbered first) by) more
      ∙ ap (λ ps. ps ++ with_word w more)
      (sym (through by) ∙ ap (map (renumbered first)) (of_words (λ n. get_or first n 0 == w) (length first) (one_number first up w) held by h below) ∙ through held)
      ∙ sym (filter-append test (map (renumbered first) held) more)

  long_through : (t : Post → Bool) (xs : List Post) → length (filter t (map (renumbered first) xs)) ≡ length (filter (λ p. t (renumbered first p)) xs)
  long_through t xs = ap length (sym (filter_through (renumbered first) t xs)) ∙ length-map (filter (λ p. t (renumbered first p)) xs) (renumbered first)

  long_both : (t : Post → Bool) (xs : List Post) → length (filter t (xs ++ more)) ≡ length (filter t xs) + length (filter t more)
  long_both t xs = ap length (filter-append t xs more) ∙ length-append (filter t xs) (filter t more)

  moved_long : (t : Post → Bool) → length (filter t (map (renumbered first) by ++ more)) ≡ length (filter t (map (renumbered first) held ++ more))
  moved_long t =
      long_both t (map (renumbered first) by)
      ∙ ap (λ n. n + length (filter t more)) (long_through t by ∙ h.same (λ p. t (renumbered first p)) ∙ sym (long_through t held))
      ∙ sym (long_both t (map (renumbered first) held))

  pub moved_by : IsNonDecreasingBy (λ p. p.word) new → ((w : ℕ) → with_word w new ≡ with_word w (map (renumbered first) by ++ more))
      → ((t : Post → Bool) → length (filter t new) ≡ length (filter t (map (renumbered first) by ++ more))) → AreByWord (map (renumbered first) held ++ more) new
  moved_by rises each same = record {
    ascending = rises;
    each = λ w. each w ∙ moved_each w;
    same = λ t. same t ∙ moved_long t;
  }

-- ---- what a stable sort leaves
tied : (w : ℕ) (p q : Post) → p.word ≡ w → ties (λ (x y : Post). is_lt (nat_cmp x.word y.word)) p q ≡ (q.word == w)
tied w p q e = grind (arith, nat_tests)

pub stable_each : (xs ys : List Post) → IsStableByKey (λ (p : Post). p.word) nat_cmp xs ys → (w : ℕ) → with_word w ys ≡ with_word w xs
stable_each xs ys stable w =
    let p : Post = record { doc = 0; word = w; pos = 0; score = 0 } in
    let lt : Post → Post → Bool = λ x y. is_lt (nat_cmp x.word y.word) in
    let is = λ (zs : List Post). filter_alike (ties lt p) (λ q. q.word == w) zs (all_of (λ q. ties lt p q ≡ (q.word == w)) (λ q. tied w p q refl) zs) in
    sym (is ys) ∙ stable p ∙ is xs

pub moved_same : (xs ys : List Post) → IsPermutation xs ys → (t : Post → Bool) → length (filter t ys) ≡ length (filter t xs)
moved_same xs ys moves t = length-filter t ys ∙ sum_by-IsPermutation (λ p. cond (t p) 1 0) xs ys moves ∙ sym (length-filter t xs)

-- ---- counting
pub countable_by : (front held by : List Post) (t : Post → Bool) → AreByWord held by → AreCountable (front ++ filter t held) → AreCountable (front ++ filter t by)
countable_by front held by t h counts =
    let kept = kept_by t held by h in
    let few : All (λ p. p.doc < MAX_DOCS) (front ++ filter t held) = counts.few_docs in
    record {
      ordered = λ w.
          subst AreSorted (filter-append (λ p. p.word == w) front (filter t held) ∙ ap (λ ps. with_word w front ++ ps) (sym (kept.each w))
          ∙ sym (filter-append (λ p. p.word == w) front (filter t by))) (counts.ordered w);
      few_docs = All-from_recursion (λ p. p.doc < MAX_DOCS) (front ++ filter t by)
          (word_by_word (λ p. p.doc < MAX_DOCS) (front ++ filter t by) (λ w.
          recursion_from_All (λ p. p.doc < MAX_DOCS) (with_word w (front ++ filter t by))
          (subst (All (λ p. p.doc < MAX_DOCS)) (filter-append (λ p. p.word == w) front (filter t held) ∙ ap (λ ps. with_word w front ++ ps) (sym (kept.each w))
          ∙ sym (filter-append (λ p. p.word == w) front (filter t by))) (All-filter (λ p. p.word == w) (λ p. p.doc < MAX_DOCS) (front ++ filter t held) few))));
    }

-- ---- the rows of a range of words
before_all : (lo hi w : ℕ) → nat_lt w lo ≡ true → (nat_le lo w && nat_lt w hi) ≡ false
before_all lo hi w e = grind (arith, nat_tests)

among : (lo hi w : ℕ) → nat_lt w lo ≡ false → nat_lt w hi ≡ true → (nat_le lo w && nat_lt w hi) ≡ true
among lo hi w e f = grind (arith, nat_tests)

behind_all : (lo hi w : ℕ) → nat_lt w hi ≡ false → (nat_le lo w && nat_lt w hi) ≡ false
behind_all lo hi w e = grind (arith, nat_tests)

module _ (lo hi : ℕ) (by : List Post) (first many : ℕ) (in_all : first ≤ length by) (in_rest : many ≤ length (drop first by))
    (low : IsPartitionPoint (λ p. nat_lt p.word lo ≡ true) (λ p. nat_lt p.word lo ≡ false) by first)
    (high : IsPartitionPoint (λ p. nat_lt p.word hi ≡ true) (λ p. nat_lt p.word hi ≡ false) (drop first by) many) where
  abbrev rest : List Post
  rest = drop first by

  front : All (λ p. is_between lo hi p ≡ false) (take first by)
  front k d lt =
      let here : k < first = (let long = length-take first by in omega (arith, lt, long)) in
      ap (is_between lo hi) (get_or-take first by k d here) ∙ before_all lo hi (get_or by k d).word (low.0 k d (omega arith) here)

  middle : All (λ p. is_between lo hi p ≡ true) (take many rest)
  middle k d lt =
      let here : k < many = (let long = length-take many rest in omega (arith, lt, long)) in
      let long = length-drop first by in
      let at = get_or-drop first by k d in
      ap (is_between lo hi) (get_or-take many rest k d here)
      ∙ among lo hi (get_or rest k d).word
      (ap (λ (p : Post). nat_lt p.word lo) at ∙ low.1 (first + k) d (omega arith) (omega (arith, here, in_rest, long, in_all)))
      (high.0 k d (omega arith) here)

  back : All (λ p. is_between lo hi p ≡ false) (drop many rest)
  back k d lt =
      let long = length-drop many rest in
      ap (is_between lo hi) (get_or-drop many rest k d)
      ∙ behind_all lo hi (get_or rest (many + k) d).word (high.1 (many + k) d (omega arith) (omega (arith, lt, long)))

  pub cut_is : take many rest ≡ filter (is_between lo hi) by
  cut_is =
      let t = is_between lo hi in
      let none = λ (xs : List Post) (h : All (λ p. t p ≡ false) xs). none_pass t xs (recursion_from_All (λ p. t p ≡ false) xs h) in
      let mine = stays t (take many rest) (recursion_from_All (λ p. t p ≡ true) (take many rest) middle) in
      sym (ap (filter t) (sym (take-append-drop first by))
      ∙ filter-append t (take first by) rest
      ∙ ap (λ ps. ps ++ filter t rest) (none (take first by) front)
      ∙ ap (filter t) (sym (take-append-drop many rest))
      ∙ filter-append t (take many rest) (drop many rest)
      ∙ ap₂ (λ xs ys. xs ++ ys) mine (none (drop many rest) back)
      ∙ append-nil (take many rest))
