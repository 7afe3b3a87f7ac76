-- Posts as numbers: their order, and what one sort of them gives.
--
--   AreAlike s lo hi listed rows     rows in any order are those of a stock with these words in listed documents
--   AreGathered v told lo hi listed keys     numbers of such rows
--   weight_kept         the weight of a score's column is the score
--   unkeyed             a packed post is the post of its number
--   ordered_is, ordered_by     what is left of sorted numbers is in order, and loses no member
--   packed_posts, within_posts     posts that are read are packed, and in range
--   docs_below      so are their documents
--   held_packed, held_within, held_known     so are those in memory
--   no_keys, keys_more  numbers of no block, and of one block more
--   run_longer      the posts of a run of blocks
--   chosen_are      with those in memory
--   with_held       what is gathered of some blocks, with those in memory
--   gathered, all_in_room, all_gathered     what is gathered of one
--   in_rows, ordered_within, ordered_passed, ordered_told     what is brought into order of it
--   as_they_come        and what isn't
--   keys_among, words_between, keys_between     what holds of each of the rows
use Rattle.std.proofs.Common.{◌≡◌, ℕ, zero, suc, ◌+◌, ◌-◌, ◌*◌, ◌/◌, ◌%◌, ◌<◌, ◌≤◌, ◌==◌, ◌&&◌, ◌||◌, Bool, true, false, true≢false, cond, List, [], ◌∷◌}
use Rattle.std.proofs.Common.{◌++◌, ◌^◌, inl, inr, length, get_or, take, drop, map, Option, refl, sym, ap, ap₂, subst, ◌∙◌, arith}
use Rattle.std.specs.Prelude.{All, filter, flat_map, nat_le, nat_lt}
use Rattle.std.specs.List.{AllByRecursion, Contains, list_any}
use Rattle.std.specs.List.Sorted.{IsPermutation, IsSorted, IsStrictlySortedBy}
use Rattle.std.specs.Ordering.{is_lt, nat_cmp, ordering_then}
use Rattle.std.specs.declared.cmp.Ordering.{Ordering}
use Rattle.std.specs.declared.cmp.Ordering.TheVariants.{Less, Equal}
use Rattle.std.proofs.lemmas.Bool.{and_parts, cases_eq, eq-eqb, eqb-true, leb-true, ltb-false, ltb-true}
use Rattle.std.proofs.lemmas.Bool.Decides.{nat_tests}
use Rattle.std.proofs.lemmas.List.{map-append, length-append}
use Rattle.std.proofs.lemmas.List.Elements.{All-nil, All-append, All-contains, All-filter, All-from_recursion, All-map, All-weaker}
use Rattle.std.proofs.lemmas.List.Elements.{Contains-get_or, filter_passes, recursion_from_All}
use Rattle.std.proofs.lemmas.List.Kept.{IsStrictlySortedBy-filter}
use Rattle.std.proofs.lemmas.List.Sorted.{All-permutation, IsPermutation-map, list_any-IsPermutation}
use Rattle.cs_base.specs.content.Orders.{AreSorted, by_place}
use Rattle.cs_base.specs.declared.content.doc.Post.{Post}
use Rattle.cs_base.specs.declared.content.scores.Weights.{Weights}
use Rattle.cs_base.proofs.MembersLemmas.{again}
use Rattle.cs_base.proofs.ListsLemmas.{all_of, filter_alike, filter_twice}
use Rattle.cs_base.proofs.OrdersLemmas.{Less-from_lt}
use Rattle.cs_file.specs.CallAnswers.{IsRanged}
use Rattle.cs_file.specs.Indexes.{AreMet, IndexView, StandsFor}
use Rattle.cs_meet.specs.Filters.{shares_place}
use Rattle.cs_tables.specs.WordCounts.{AreCountable, is_chosen}
use Rattle.cs_model_index.specs.BlockRules.{is_scored}
use Rattle.cs_rows.specs.declared.gathering.GatheredKeys.{GatheredKeys}
use Rattle.cs_rows.specs.GatheredRows.{HasGathered}
use Rattle.cs_rows.specs.Packing.{AreFrom, HasKeys, IsOrdered, IsPacked, apart, column_of, doc_of_key, is_weight, key_of, place_of_key, post_of_key, score_of, word_of_key}
use Rattle.cs_rows.specs.Counting.{in_listed}
use Rattle.cs_rows.specs.IndexReading.{AreWithin, IsWithin, WhereStood, run_of}
use Rattle.cs_rows.specs.Sources.{IsIn, IsSource, SourceView, seen}
use Rattle.cs_rows.specs.Stocked.{Stock, is_between}
use Rattle.cs_rows.specs.declared.packing.TheConstants.{NO_PLACE, POSITION_ROOM}
use Rattle.cs_rows.proofs.CountingLemmas.{flat_more}
use Rattle.cs_rows.proofs.RowsInRange.{same_posts}
use Rattle.cs_rows.proofs.OverSources.{chosen_alike, chosen_among, chosen_countable, chosen_long}
use Rattle.cs_rows.proofs.StockLemmas.{score_fits}
use Rattle.cs_rows.proofs.UnionLemmas.{one_post}

-- ---- rows in any order
-- the same tests pass on both, there are as many, and the rows of each word are in order
pub record AreAlike (s : Stock) (lo hi : ℕ) (listed : List Bool) (rows : List Post) : Type 0 where
  pub among : All (Contains s.posts) rows
  pub alike : (t : Post → Bool) → list_any t rows ≡ list_any t (filter (in_listed listed) (filter (is_between lo hi) s.posts))
  pub long : length rows ≡ length (filter (in_listed listed) (filter (is_between lo hi) s.posts))
  pub countable : AreCountable rows

-- each row passes, and is in the range of the source
pub record AreGathered (v : SourceView) (told : Option (List ℕ)) (lo hi : ℕ) (listed : List Bool) (keys : List ℕ) : Type 0 where
  pub rows : List Post
  pub are : keys ≡ map (key_of v.index.weights) rows
  pub packed : All (IsPacked v.index.weights) rows
  pub within : All (IsWithin v.docs (length v.words)) rows
  pub passed : All (λ p. is_chosen lo hi listed p ≡ true) rows
  pub stood : WhereStood told v.index (λ b. AreAlike (v.stock b) lo hi listed rows)

-- ---- a post and its number
front : (m r : ℕ) → r < 4 → (m * 4 + r) / 4 ≡ m
front m r lt = omega (arith, lt)

back : (m r : ℕ) → r < 4 → (m * 4 + r) % 4 ≡ r
back m r lt = omega (arith, lt)

word_front : (m r : ℕ) → r < 4194304 → (m * 4194304 + r) / 4194304 ≡ m
word_front m r lt = omega (arith, lt)

word_back : (m r : ℕ) → r < 4194304 → (m * 4194304 + r) % 4194304 ≡ r
word_back m r lt = omega (arith, lt)

spot_front : (m r : ℕ) → r < 131072 → (m * 131072 + r) / 131072 ≡ m
spot_front m r lt = omega (arith, lt)

spot_back : (m r : ℕ) → r < 131072 → (m * 131072 + r) % 131072 ≡ r
spot_back m r lt = omega (arith, lt)

-- one of two that isn't the first
second : (a b : Bool) → (a || b) ≡ true → a ≡ false → b ≡ true
second true b h e = absurd (true≢false e)
second false b h e = h

-- whichever columns have equal weights
pub weight_kept : (w : Weights) (score : ℕ) → is_weight w score ≡ true → score_of w (column_of w score) ≡ score
weight_kept w score h =
    elim (score == w.facet) as (λ b. score == w.facet ≡ b → score_of w (cond b 0 (cond (score == w.title) 1 2)) ≡ score) [
      | true ↦ λ e. sym (eqb-true score w.facet e)
      | false ↦ λ e.
          let others = second (score == w.facet) (score == w.title || score == w.text) h e in
          elim (score == w.title) as (λ b. score == w.title ≡ b → score_of w (cond b 1 2) ≡ score) [
            | true ↦ λ f. sym (eqb-true score w.title f)
            | false ↦ λ f. sym (eqb-true score w.text (second (score == w.title) (score == w.text) others f))
          ] refl
    ] refl

few_columns : (w : Weights) (score : ℕ) → column_of w score < 4
few_columns w score =
    elim (score == w.facet) as (λ b. cond b 0 (cond (score == w.title) 1 2) < 4) [
      | true ↦ omega arith
      | false ↦ elim (score == w.title) as (λ b. cond b 1 2 < 4) [
        | true ↦ omega arith
        | false ↦ omega arith
      ]
    ]

pub unkeyed : (w : Weights) (p : Post) → IsPacked w p → post_of_key w (key_of w p) ≡ p
unkeyed w p h =
    let spot = p.doc * 131072 + p.pos in
    let place = spot * 4194304 + p.word in
    let column = column_of w p.score in
    let few = few_columns w p.score in
    let at : place_of_key (key_of w p) ≡ place = front place column few in
    let spots : place_of_key (key_of w p) / 4194304 ≡ spot = ap (λ n. n / 4194304) at ∙ word_front spot p.word h.word in
    let doc : doc_of_key (key_of w p) ≡ p.doc = ap (λ n. n / 131072) spots ∙ spot_front p.doc p.pos h.pos in
    let pos : (post_of_key w (key_of w p)).pos ≡ p.pos = ap (λ n. n % 131072) spots ∙ spot_back p.doc p.pos h.pos in
    let word : word_of_key (key_of w p) ≡ p.word = ap (λ n. n % 4194304) at ∙ word_back spot p.word h.word in
    let score : (post_of_key w (key_of w p)).score ≡ p.score = ap (score_of w) (back place column few) ∙ weight_kept w p.score h.score in
    let q = post_of_key w (key_of w p) in
    ap (λ d. let r : Post = record { doc = d; word = q.word; pos = q.pos; score = q.score } in r) doc
    ∙ ap (λ x. let r : Post = record { doc = p.doc; word = x; pos = q.pos; score = q.score } in r) word
    ∙ ap (λ x. let r : Post = record { doc = p.doc; word = p.word; pos = x; score = q.score } in r) pos
    ∙ ap (λ x. let r : Post = record { doc = p.doc; word = p.word; pos = p.pos; score = x } in r) score

all_unkeyed : (w : Weights) (rows : List Post) → AllByRecursion (IsPacked w) rows → map (post_of_key w) (map (key_of w) rows) ≡ rows
all_unkeyed w [] h = refl
all_unkeyed w (p ∷ rows) h = ap₂ (λ x xs. x ∷ xs) (unkeyed w p h.0) (all_unkeyed w rows h.1)

small_key : (w : Weights) (p : Post) → IsPacked w p → place_of_key (key_of w p) < NO_PLACE
small_key w p h =
    let doc = h.doc in
    let pos = h.pos in
    let word = h.word in
    let place = (p.doc * 131072 + p.pos) * 4194304 + p.word in
    let at : place_of_key (key_of w p) ≡ place = front place (column_of w p.score) (few_columns w p.score) in
    omega (arith, at, doc, pos, word)

small_keys : (w : Weights) (rows : List Post) → AllByRecursion (IsPacked w) rows → AllByRecursion (λ k. place_of_key k < NO_PLACE) (map (key_of w) rows)
small_keys w [] h = tt
small_keys w (p ∷ rows) h = (small_key w p h.0, small_keys w rows h.1)

-- ---- the order of numbers
less_then : (d e : ℕ) (r : Ordering) → d < e → ordering_then (nat_cmp d e) r ≡ Less
less_then d e r lt = ap (λ o. ordering_then o r) (Less-from_lt d e lt)

tied_then : (d e : ℕ) (r : Ordering) → d ≡ e → ordering_then (nat_cmp d e) r ≡ r
tied_then d e r same = let tied : nat_cmp d e ≡ Equal = grind (arith, nat_tests) in ap (λ o. ordering_then o r) tied

word_later : (a b : ℕ) → a < b → b / 4194304 ≤ a / 4194304 → (a / 4194304 ≡ b / 4194304) × (a % 4194304 < b % 4194304)
word_later a b lt le = (omega (arith, lt, le), omega (arith, lt, le))

spot_later : (a b : ℕ) → a < b → b / 131072 ≤ a / 131072 → (a / 131072 ≡ b / 131072) × (a % 131072 < b % 131072)
spot_later a b lt le = (omega (arith, lt, le), omega (arith, lt, le))

spots_less : (a b : ℕ) (r : Ordering) → a < b → ordering_then (nat_cmp (a / 131072) (b / 131072)) (ordering_then (nat_cmp (a % 131072) (b % 131072)) r) ≡ Less
spots_less a b r lt =
    elim (nat_lt (a / 131072) (b / 131072)) as (λ c. nat_lt (a / 131072) (b / 131072) ≡ c
    → ordering_then (nat_cmp (a / 131072) (b / 131072)) (ordering_then (nat_cmp (a % 131072) (b % 131072)) r) ≡ Less) [
      | true ↦ λ e. less_then (a / 131072) (b / 131072) _ (ltb-true _ _ e)
      | false ↦ λ e. let s = spot_later a b lt (ltb-false _ _ e) in tied_then (a / 131072) (b / 131072) _ s.0 ∙ less_then (a % 131072) (b % 131072) r s.1
    ] refl

places_less : (w : Weights) (a b : ℕ) → place_of_key a < place_of_key b → by_place (post_of_key w a) (post_of_key w b) ≡ Less
places_less w a b lt =
    let m = place_of_key a in
    let n = place_of_key b in
    elim (nat_lt (m / 4194304) (n / 4194304)) as (λ c. nat_lt (m / 4194304) (n / 4194304) ≡ c → by_place (post_of_key w a) (post_of_key w b) ≡ Less) [
      | true ↦ λ e. spots_less (m / 4194304) (n / 4194304) (nat_cmp (m % 4194304) (n % 4194304)) (ltb-true _ _ e)
      | false ↦ λ e.
          let later = word_later m n lt (ltb-false _ _ e) in
          tied_then (m / 4194304 / 131072) (n / 4194304 / 131072) _ (ap (λ x. x / 131072) later.0)
          ∙ tied_then (m / 4194304 % 131072) (n / 4194304 % 131072) _ (ap (λ x. x % 131072) later.0)
          ∙ Less-from_lt (m % 4194304) (n % 4194304) later.1
    ] refl

-- each number is at least the one before
Up : ℕ → List ℕ → Type 0
Up l [] = Unit {0}
Up l (k ∷ ks) = (l ≤ k) × Up k ks

no_less : (k l : ℕ) → is_lt (nat_cmp k l) ≡ false → l ≤ k
no_less k l h = grind (arith, nat_tests)

ups : (l : ℕ) (ks : List ℕ) → IsSorted nat_cmp (l ∷ ks) → Up l ks
unfolding Up
ups l [] h = tt
ups l (k ∷ ks) h = (
  no_less k l (h 0 0 (omega arith) (omega arith)),
  ups k ks (λ j d from lt.
      let e : suc j + 1 ≡ suc (j + 1) = omega arith in
      ap (λ n. is_lt (nat_cmp (get_or (l ∷ k ∷ ks) n d) (get_or (k ∷ ks) j d))) (sym e) ∙ h (suc j) d (omega arith) (omega (arith, lt))),
)

later_place : (k l : ℕ) → l ≤ k → place_of_key l ≤ place_of_key k
later_place k l le = omega (arith, le)

not_same : (k l : ℕ) → l ≤ k → k == l ≡ false → l < k
not_same k l le h = grind (arith, nat_tests)

above : (n l : ℕ) (ks : List ℕ) → n ≤ place_of_key l → Up l ks → AllByRecursion (λ k. n < place_of_key k) (apart (place_of_key l) ks)
unfolding Up
above n l [] le up = tt
above n l (k ∷ ks) le up =
    let on = later_place k l up.0 in
    let rest = above n k ks (omega (arith, le, on)) up.1 in
    elim (place_of_key k == place_of_key l) as (λ b. place_of_key k == place_of_key l ≡ b
    → AllByRecursion (λ k. n < place_of_key k) (cond b (apart (place_of_key k) ks) (k ∷ apart (place_of_key k) ks))) [
      | true ↦ λ e. rest
      | false ↦ λ e. let lt = not_same (place_of_key k) (place_of_key l) on e in (omega (arith, le, lt), rest)
    ] refl

all_later : (w : Weights) (l : ℕ) (ks : List ℕ) → AllByRecursion (λ k. place_of_key l < place_of_key k) ks
    → AllByRecursion (λ p. by_place (post_of_key w l) p ≡ Less) (map (post_of_key w) ks)
all_later w l [] h = tt
all_later w l (k ∷ ks) h = (places_less w l k h.0, all_later w l ks h.1)

rises : (w : Weights) (l : ℕ) (ks : List ℕ) → Up l ks → AreSorted (map (post_of_key w) (apart (place_of_key l) ks))
unfolding Up IsStrictlySortedBy
rises w l [] up = tt
rises w l (k ∷ ks) up =
    let rest = rises w k ks up.1 in
    elim (place_of_key k == place_of_key l) as (λ b. AreSorted (map (post_of_key w) (cond b (apart (place_of_key k) ks) (k ∷ apart (place_of_key k) ks)))) [
      | true ↦ rest
      | false ↦ (all_later w k (apart (place_of_key k) ks) (above (place_of_key k) k ks (omega arith) up.1), rest)
    ]

-- ---- what is left of them
each_apart : (w : Weights) (P : Post → Type 0) (l : ℕ) (ks : List ℕ) → AllByRecursion P (map (post_of_key w) ks)
    → AllByRecursion P (map (post_of_key w) (apart l ks))
each_apart w P l [] h = tt
each_apart w P l (k ∷ ks) h =
    let rest = each_apart w P (place_of_key k) ks h.1 in
    elim (place_of_key k == l) as (λ b. AllByRecursion P (map (post_of_key w) (cond b (apart (place_of_key k) ks) (k ∷ apart (place_of_key k) ks)))) [
      | true ↦ rest
      | false ↦ (h.0, rest)
    ]

all_three : (a b c : Bool) → a ≡ true → b ≡ true → c ≡ true → (a && (b && c)) ≡ true
all_three a b c p q r = rw (p, q, r) refl

shared : (w : Weights) (k l : ℕ) → place_of_key k ≡ place_of_key l → shares_place (post_of_key w k) (post_of_key w l) ≡ true
shared w k l same =
    all_three _ _ _ (eq-eqb (doc_of_key l) (doc_of_key k) (ap (λ n. n / 4194304 / 131072) (sym same)))
    (eq-eqb (post_of_key w l).pos (post_of_key w k).pos (ap (λ n. n / 4194304 % 131072) (sym same)))
    (eq-eqb (word_of_key l) (word_of_key k) (ap (λ n. n % 4194304) (sym same)))

module _ (w : Weights) (all : List Post) (up : AreSorted all) (t : Post → Bool) where
  abbrev post : ℕ → Post
  post = post_of_key w

  any_behind : (l : ℕ) (ks : List ℕ) → Contains all (post l) → AllByRecursion (Contains all) (map post ks)
      → (t (post l) || list_any t (map post (apart (place_of_key l) ks))) ≡ (t (post l) || list_any t (map post ks))
  any_behind l [] at h = refl
  any_behind l (k ∷ ks) at h =
      let rest = any_behind k ks h.0 h.1 in
      elim (place_of_key k == place_of_key l) as (λ b. place_of_key k == place_of_key l ≡ b
      → (t (post l) || list_any t (map post (cond b (apart (place_of_key k) ks) (k ∷ apart (place_of_key k) ks)))) ≡ (t (post l)
      || (t (post k) || list_any t (map post ks)))) [
        | true ↦ λ e.
            let same : post k ≡ post l = one_post all up (post k) (post l) h.0 at
            (shared w k l (eqb-true (place_of_key k) (place_of_key l) e)) in
            ap (λ p. t p || list_any t (map post (apart (place_of_key k) ks))) (sym same) ∙ rest
            ∙ again (t (post k)) (list_any t (map post ks)) ∙ ap (λ p. t p || (t (post k) || list_any t (map post ks))) same
        | false ↦ λ e. ap (λ b. t (post l) || b) rest
      ] refl

first_apart : (k : ℕ) (ks : List ℕ) → place_of_key k < NO_PLACE → apart NO_PLACE (k ∷ ks) ≡ k ∷ apart (place_of_key k) ks
first_apart k ks lt = let away : place_of_key k == NO_PLACE ≡ false = grind (arith, nat_tests) in
    ap (λ b. cond b (apart (place_of_key k) ks) (k ∷ apart (place_of_key k) ks)) away

sorted_nil : AreSorted []
unfolding IsStrictlySortedBy
sorted_nil = tt

pub all_rise : (w : Weights) (ks : List ℕ) → AllByRecursion (λ k. place_of_key k < NO_PLACE) ks → IsSorted nat_cmp ks
    → AreSorted (map (post_of_key w) (apart NO_PLACE ks))
unfolding IsStrictlySortedBy
all_rise w [] small up = sorted_nil
all_rise w (k ∷ ks) small up =
    let on = ups k ks up in
    subst (λ xs. AreSorted (map (post_of_key w) xs)) (sym (first_apart k ks small.0))
    (all_later w k (apart (place_of_key k) ks) (above (place_of_key k) k ks (omega arith) on), rises w k ks on)

pub any_apart : (w : Weights) (all : List Post) → AreSorted all → (t : Post → Bool) (ks : List ℕ) → AllByRecursion (λ k. place_of_key k < NO_PLACE) ks
    → AllByRecursion (Contains all) (map (post_of_key w) ks)
    → list_any t (map (post_of_key w) (apart NO_PLACE ks)) ≡ list_any t (map (post_of_key w) ks)
any_apart w all up t [] small h = refl
any_apart w all up t (k ∷ ks) small h =
    ap (λ xs. list_any t (map (post_of_key w) xs)) (first_apart k ks small.0) ∙ any_behind w all up t k ks h.0 h.1

pub ordered_is : (w : Weights) (rows : List Post) (keys ks : List ℕ) (posts : List Post) → keys ≡ map (key_of w) rows → All (IsPacked w) rows
    → IsPermutation keys ks → IsSorted nat_cmp ks → posts ≡ map (post_of_key w) (apart NO_PLACE ks) → IsOrdered rows posts
ordered_is w rows keys ks posts are packed moved up is =
    let each = recursion_from_All (IsPacked w) rows packed in
    let perm = subst (λ xs. IsPermutation xs ks) are moved in
    let small = recursion_from_All (λ k. place_of_key k < NO_PLACE) ks
    (All-permutation (λ k. place_of_key k < NO_PLACE) (map (key_of w) rows) ks perm
    (All-from_recursion (λ k. place_of_key k < NO_PLACE) (map (key_of w) rows) (small_keys w rows each))) in
    let all = map (post_of_key w) ks in
    let posts_perm : IsPermutation rows all = subst (λ xs. IsPermutation xs all) (all_unkeyed w rows each)
    (IsPermutation-map (post_of_key w) (map (key_of w) rows) ks perm) in
    record {
      sorted = subst AreSorted (sym is) (all_rise w ks small up);
      among = subst (All (Contains rows)) (sym is)
          (All-from_recursion (Contains rows) (map (post_of_key w) (apart NO_PLACE ks))
          (each_apart w (Contains rows) NO_PLACE ks (recursion_from_All (Contains rows) all
          (All-permutation (Contains rows) rows all posts_perm (λ k d lt. Contains-get_or rows k d lt)))));
      alike = λ whole whole_up in_whole t.
          ap (list_any t) is
          ∙ any_apart w whole whole_up t ks small (recursion_from_All (Contains whole) all
          (All-permutation (Contains whole) rows all posts_perm in_whole))
          ∙ sym (list_any-IsPermutation t rows all posts_perm);
    }

-- by weights that are these
pub ordered_by : {w v : Weights} {keys : List ℕ} {posts : List Post} → w ≡ v
    → ((rows : List Post) → keys ≡ map (key_of w) rows → All (IsPacked w) rows → IsOrdered rows posts)
    → (rows : List Post) → keys ≡ map (key_of v) rows → All (IsPacked v) rows → IsOrdered rows posts
ordered_by {keys = keys} {posts = posts} same told =
    subst (λ (x : Weights). (rows : List Post) → keys ≡ map (key_of x) rows → All (IsPacked x) rows → IsOrdered rows posts) same told

-- ---- the rows of blocks
record HasRoom (w : Weights) (r : Post) : Type 0 where
  pos : r.pos < POSITION_ROOM
  score : is_weight w r.score ≡ true

has_room : (w : Weights) (facet : Bool) (r : Post) → is_scored w facet r ≡ true → HasRoom w r
has_room w true r h = record { pos = grind (arith, nat_tests); score = grind (arith, nat_tests) }
has_room w false r h = record { pos = grind (arith, nat_tests); score = grind (arith, nat_tests) }

-- posts in the range of a source have room, and its weights
pub packed_posts : (v : SourceView) → IsSource v → (read : List Post) → All (IsRanged (seen v)) read → All (IsPacked v.index.weights) read
packed_posts v is read ranged =
    let docs = is.few_docs in
    let words = is.few_words in
    λ j e l.
    let p = ranged j e l in
    let doc = p.doc in
    let word = p.word in
    let room = has_room v.index.weights p.facet (get_or read j e) p.scored in
    record { doc = omega (arith, doc, docs); pos = room.pos; word = omega (arith, word, words); score = room.score }

pub within_posts : (v : SourceView) → IsSource v → (read : List Post) → All (IsRanged (seen v)) read → All (IsWithin v.docs (length v.words)) read
within_posts v is read ranged = λ j e l.
    let p = ranged j e l in
    let score = score_fits v.index.weights is.index.weights p.facet (get_or read j e) p.scored in
    record { doc = p.doc; word = p.word; score_from = score.0; score_to = score.1 }

pub docs_below : (v : SourceView) (rows : List Post) {docs : ℕ} → docs ≡ v.docs → All (IsWithin v.docs (length v.words)) rows
    → All (λ p. p.doc < docs) rows
docs_below v rows {docs} docs_are within =
    All-weaker (IsWithin v.docs (length v.words)) (λ p. p.doc < docs) (λ p h. let doc = h.doc in omega (arith, doc, docs_are)) rows within

held_ranged : (v : SourceView) → IsSource v → All (IsRanged (seen v)) v.held
held_ranged v is = All-weaker (IsIn v) (IsRanged (seen v)) (λ p h. h.ranged) v.held is.held

-- and so have those in memory of some words
module _ (v : SourceView) (is : IsSource v) (lo hi : ℕ) (held : List Post) (same : held ≡ filter (is_between lo hi) v.held) where
  some_held : (P : Post → Type 0) → All P v.held → All P held
  some_held P all = subst (All P) (sym same) (All-filter (is_between lo hi) P v.held all)

  pub held_packed : All (IsPacked v.index.weights) held
  held_packed = some_held (IsPacked v.index.weights) (packed_posts v is v.held (held_ranged v is))

  pub held_within : All (IsWithin v.docs (length v.words)) held
  held_within = some_held (IsWithin v.docs (length v.words)) (within_posts v is v.held (held_ranged v is))

  -- their documents are there
  pub held_known : {docs : ℕ} → docs ≡ v.docs → All (λ p. p.doc < docs) held
  held_known docs_are = docs_below v held docs_are held_within

and_again : (a b : Bool) → (a && (a && b)) ≡ (a && b)
and_again a b = elim a as (λ x. (x && (x && b)) ≡ (x && b)) [
  | true ↦ refl
  | false ↦ refl
]

-- of these words the rows in memory are chosen among all that are in memory
pub held_chosen : (v : SourceView) (lo hi : ℕ) (listed : List Bool) (held : List Post) → held ≡ filter (is_between lo hi) v.held
    → filter (is_chosen lo hi listed) held ≡ filter (is_chosen lo hi listed) v.held
held_chosen v lo hi listed held same =
    let p = is_between lo hi in
    let t = is_chosen lo hi listed in
    ap (filter t) same ∙ sym (filter_twice p t v.held)
    ∙ filter_alike (λ x. p x && t x) t v.held (all_of _ (λ x. and_again (p x) (get_or listed x.doc false)) v.held)

pub no_keys : (v : SourceView) (told : Option (List ℕ)) (first : ℕ) (t : Post → Bool) (keys : List ℕ) → keys ≡ [] → HasKeys v told first first t keys
no_keys v told first t keys none = record {
  rows = [];
  are = none;
  packed = All-nil (IsPacked v.index.weights);
  within = All-nil (IsWithin v.docs (length v.words));
  passed = All-nil (λ p. t p ≡ true);
  run = λ b is stands. (let e : 0 ≡ first - first = omega arith in ap (λ n. flat_map (filter t) (take n (drop first (v.blocks b)))) e);
}

-- of a block more the posts that pass are added
pub keys_more : (v : SourceView) → IsSource v → (told : Option (List ℕ)) (first k : ℕ) (t : Post → Bool) (old new : List ℕ) (posts : List Post) → first ≤ k
    → k < length v.index.heads → new ≡ old ++ map (key_of v.index.weights) posts → AreFrom v told k t posts
    → HasKeys v told first k t old → HasKeys v told first (k + 1) t new
keys_more v source told first k t old new posts le lt added from h = record {
  rows = h.rows ++ posts;
  are = added ∙ ap (λ xs. xs ++ map (key_of v.index.weights) posts) h.are ∙ sym (map-append (key_of v.index.weights) h.rows posts);
  packed = All-append (IsPacked v.index.weights) h.rows posts h.packed from.packed;
  within = All-append (IsWithin v.docs (length v.words)) h.rows posts h.within from.within;
  passed = All-append (λ p. t p ≡ true) h.rows posts h.passed from.passed;
  run = λ b is stands.
      let count = (source.told b stands).count in
      ap₂ (λ x y. x ++ y) (h.run b is stands) (from.read b is stands) ∙ sym (flat_more (filter t) (v.blocks b) first k le (omega (arith, lt, count)));
}

pub in_rows : (P : Post → Type 0) (rows posts : List Post) → All (Contains rows) posts → All P rows → All P posts
in_rows P rows posts among h = λ k d lt. All-contains P rows (get_or posts k d) h (among k d lt)

pub ordered_within : (i : IndexView) (rows posts : List Post) → All (IsWithin i.docs (length i.words)) rows → IsOrdered rows posts → AreWithin i posts
ordered_within i rows posts within o = record { sorted = o.sorted; within = in_rows (IsWithin i.docs (length i.words)) rows posts o.among within }

listed_too : (a b : Bool) → (a && b) ≡ true → b ≡ true
listed_too true b h = h
listed_too false b h = absurd (true≢false (sym h))

pub ordered_passed : (lo hi : ℕ) (listed : List Bool) (rows posts : List Post) → All (λ p. is_chosen lo hi listed p ≡ true) rows → IsOrdered rows posts
    → All (λ p. in_listed listed p ≡ true) posts
ordered_passed lo hi listed rows posts passed o =
    All-weaker (λ p. is_chosen lo hi listed p ≡ true) (λ p. in_listed listed p ≡ true) (λ p h. listed_too (is_between lo hi p) (in_listed listed p) h) posts
    (in_rows (λ p. is_chosen lo hi listed p ≡ true) rows posts o.among passed)

longer : (t : Post → Bool) (n m : ℕ) (xs : List (List Post)) → n ≤ m → length (flat_map (filter t) (take n xs)) ≤ length (flat_map (filter t) (take m xs))
longer t zero m xs le = omega arith
longer t (suc n) zero xs le = absurd (omega (arith, le))
longer t (suc n) (suc m) [] le = omega arith
longer t (suc n) (suc m) (x ∷ xs) le =
    let rest = longer t n m xs (omega (arith, le)) in
    let a = length-append (filter t x) (flat_map (filter t) (take n xs)) in
    let b = length-append (filter t x) (flat_map (filter t) (take m xs)) in
    omega (arith, rest, a, b)

-- of more blocks there are no fewer posts
pub run_longer : (t : Post → Bool) (blocks : List (List Post)) (first next last : ℕ) → next ≤ last → length (run_of blocks first next t) ≤ length (run_of blocks first last t)
run_longer t blocks first next last le = longer t (next - first) (last - first) (drop first blocks) (omega (arith, le))

-- with those in memory
pub chosen_are : (b : List ℕ) (v : SourceView) → StandsFor b v.index → IsSource v → (first last lo hi : ℕ) (listed : List Bool)
    → AreMet v.index.heads (v.before lo) (v.before hi) first last
    → AreAlike (v.stock b) lo hi listed (run_of (v.blocks b) first last (is_chosen lo hi listed) ++ filter (is_chosen lo hi listed) v.held)
chosen_are b v stands is first last lo hi listed met = record {
  among = chosen_among b v stands is first last lo hi listed met;
  alike = λ t. chosen_alike b v stands is first last lo hi listed met t;
  long = chosen_long b v stands is first last lo hi listed met;
  countable = chosen_countable b v stands is first last lo hi listed met;
}

-- what is gathered of some blocks, with the rows in memory behind it
pub record HasMore (v : SourceView) (lo hi : ℕ) (listed : List Bool) (keys : List ℕ) : Type 0 where
  pub rows : List Post
  pub are : keys ≡ map (key_of v.index.weights) rows
  pub packed : All (IsPacked v.index.weights) rows
  pub within : All (IsWithin v.docs (length v.words)) rows
  pub passed : All (λ p. is_chosen lo hi listed p ≡ true) rows

pub with_held : (v : SourceView) → IsSource v → (told : Option (List ℕ)) (lo hi : ℕ) (listed : List Bool) (g : GatheredKeys) (held : List Post) (keys : List ℕ)
    → HasGathered v told lo hi listed g → held ≡ filter (is_between lo hi) v.held → keys ≡ g.keys.items ++ map (key_of v.index.weights) (filter (is_chosen lo hi listed) held)
    → HasMore v lo hi listed keys
with_held v is told lo hi listed g held keys has held_is added =
    let w = v.index.weights in
    let t = is_chosen lo hi listed in
    let more = filter t held in
    let h = has.keys in
    record {
      rows = h.rows ++ more;
      are = added ∙ ap (λ xs. xs ++ map (key_of w) more) h.are ∙ sym (map-append (key_of w) h.rows more);
      packed = All-append (IsPacked w) h.rows more h.packed (All-filter t (IsPacked w) held (held_packed v is lo hi held held_is));
      within = All-append (IsWithin v.docs (length v.words)) h.rows more h.within
          (All-filter t (IsWithin v.docs (length v.words)) held (held_within v is lo hi held held_is));
      passed = All-append (λ p. t p ≡ true) h.rows more h.passed (filter_passes t held);
    }

-- the numbers of what is gathered of all blocks that hold such words, and of the rows in memory behind them
pub gathered : (v : SourceView) → IsSource v → (told : Option (List ℕ)) (first last lo hi : ℕ) (listed : List Bool) (held : List Post) (old keys : List ℕ)
    → AreMet v.index.heads (v.before lo) (v.before hi) first last → HasKeys v told first last (is_chosen lo hi listed) old
    → held ≡ filter (is_between lo hi) v.held → keys ≡ old ++ map (key_of v.index.weights) (filter (is_chosen lo hi listed) held) → AreGathered v told lo hi listed keys
gathered v is told first last lo hi listed held old keys met h held_is added =
    let w = v.index.weights in
    let t = is_chosen lo hi listed in
    let more = filter t held in
    record {
      rows = h.rows ++ more;
      are = added ∙ ap (λ xs. xs ++ map (key_of w) more) h.are ∙ sym (map-append (key_of w) h.rows more);
      packed = All-append (IsPacked w) h.rows more h.packed (All-filter t (IsPacked w) held (held_packed v is lo hi held held_is));
      within = All-append (IsWithin v.docs (length v.words)) h.rows more h.within
          (All-filter t (IsWithin v.docs (length v.words)) held (held_within v is lo hi held held_is));
      passed = All-append (λ p. t p ≡ true) h.rows more h.passed (filter_passes t held);
      stood = λ b tells stands.
          subst (AreAlike (v.stock b) lo hi listed) (ap₂ (λ x y. x ++ y) (sym (h.run b tells stands)) (sym (held_chosen v lo hi listed held held_is)))
          (chosen_are b v stands is first last lo hi listed met);
    }

-- where all blocks are gathered
pub all_in_room : (v : SourceView) → IsSource v → (told : Option (List ℕ)) (lo hi : ℕ) (listed : List Bool) (g : GatheredKeys) (room : ℕ)
    (held : List Post) (keys : List ℕ)
    → HasGathered v told lo hi listed g → (g.next < g.last → (room < length g.keys.items) × (length g.keys.items < 2 ^ 64)) → length g.keys.items ≤ room
    → held ≡ filter (is_between lo hi) v.held → keys ≡ g.keys.items ++ map (key_of v.index.weights) (filter (is_chosen lo hi listed) held) → AreGathered v told lo hi listed keys
all_in_room v is told lo hi listed g room held keys h whole few held_is added =
    let t = is_chosen lo hi listed in
    let le = h.upto in
    let end : g.next ≡ g.last = elim (cases_eq g.next g.last) [
      | inl same ↦ same
      | inr other ↦ absurd (let w = whole (omega (arith, le, other)) in omega (arith, w.0, few))
    ] in
    gathered v is told g.first g.last lo hi listed held g.keys.items keys h.met (subst (λ k. HasKeys v told g.first k t g.keys.items) end h.keys)
    held_is added

-- with room for all numbers there is
pub all_gathered : (v : SourceView) → IsSource v → (told : Option (List ℕ)) (lo hi : ℕ) (listed : List Bool) (g : GatheredKeys) (held : List Post) (keys : List ℕ)
    → HasGathered v told lo hi listed g → (g.next < g.last → (2 ^ 64 - 1 < length g.keys.items) × (length g.keys.items < 2 ^ 64))
    → held ≡ filter (is_between lo hi) v.held → keys ≡ g.keys.items ++ map (key_of v.index.weights) (filter (is_chosen lo hi listed) held) → AreGathered v told lo hi listed keys
all_gathered v is told lo hi listed g held keys h whole held_is added =
    let le = h.upto in
    all_in_room v is told lo hi listed g (length g.keys.items) held keys h (λ more. (let w = whole more in absurd (omega (arith, w.0, w.1))))
    (omega arith) held_is added

pub ordered_told : (b : List ℕ) (v : SourceView) → StandsFor b v.index → IsSource v → (lo hi : ℕ) (listed : List Bool) (rows posts : List Post)
    → AreAlike (v.stock b) lo hi listed rows → IsOrdered rows posts
    → posts ≡ filter (in_listed listed) (filter (is_between lo hi) (v.stock b).posts)
ordered_told b v s is lo hi listed rows posts a o =
    let all = (v.stock b).posts in
    let up = (is.told b s).stocked.sorted in
    same_posts posts (filter (in_listed listed) (filter (is_between lo hi) all)) o.sorted
    (IsStrictlySortedBy-filter by_place (in_listed listed) (filter (is_between lo hi) all) (IsStrictlySortedBy-filter by_place (is_between lo hi) all up))
    (λ t. o.alike all up a.among t ∙ a.alike t)

-- the rows of numbers, as they come
pub as_they_come : (w : Weights) (rows : List Post) (keys : List ℕ) → keys ≡ map (key_of w) rows → All (IsPacked w) rows → map (post_of_key w) keys ≡ rows
as_they_come w rows keys are packed = ap (map (post_of_key w)) are ∙ all_unkeyed w rows (recursion_from_All (IsPacked w) rows packed)

-- what holds of each of the rows
pub keys_among : (w : Weights) (P : Post → Type 0) (rows : List Post) (keys : List ℕ) → keys ≡ map (key_of w) rows → All (IsPacked w) rows → All P rows
    → All (λ k. P (post_of_key w k)) keys
keys_among w P rows keys are packed h =
    subst (All (λ k. P (post_of_key w k))) (sym are)
    (All-map (λ k. P (post_of_key w k)) (key_of w) rows (λ k d l. subst P (sym (unkeyed w (get_or rows k d) (packed k d l))) (h k d l)))

-- rows that are chosen are of the words
pub words_between : (lo hi : ℕ) (listed : List Bool) (rows : List Post) → All (λ p. is_chosen lo hi listed p ≡ true) rows
    → All (λ p. (lo ≤ p.word) × (p.word < hi)) rows
words_between lo hi listed rows passed =
    All-weaker (λ p. is_chosen lo hi listed p ≡ true) (λ p. (lo ≤ p.word) × (p.word < hi))
    (λ p h.
    let both = and_parts (nat_le lo p.word) (nat_lt p.word hi) (and_parts (nat_le lo p.word && nat_lt p.word hi) (in_listed listed p) h).0 in
    (leb-true lo p.word both.0, ltb-true p.word hi both.1)) rows passed

pub keys_between : (w : Weights) (lo hi : ℕ) (listed : List Bool) (rows : List Post) (keys : List ℕ) → keys ≡ map (key_of w) rows → All (IsPacked w) rows
    → All (λ p. is_chosen lo hi listed p ≡ true) rows → All (λ k. (lo ≤ word_of_key k) × (word_of_key k < hi)) keys
keys_between w lo hi listed rows keys are packed passed =
    keys_among w (λ p. (lo ≤ p.word) × (p.word < hi)) rows keys are packed (words_between lo hi listed rows passed)
