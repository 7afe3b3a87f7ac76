-- A state is a source.
--
--   now_known      its posts are known
--   now_sorted     they are in order
--   run_now        the blocks that hold some words have all their posts in blocks
--   countable_now  posts of blocks and memory can be counted together
--   state_told     over the bytes of its index
--   state_source   a state is a source
--   many_now       where no document of the index is gone it has as many posts as the index, or more
use Rattle.std.proofs.Common.{◌≡◌, ℕ, ◌+◌, ◌-◌, ◌<◌, ◌≤◌, ◌==◌, ◌&&◌, ◌||◌, Bool, true, false, List, [], ◌∷◌, ◌++◌, length, get_or, take, drop, map, replicate}
use Rattle.std.proofs.Common.{refl, sym, ap, ap₂, subst, ◌∙◌, arith, append-nil}
use Rattle.std.specs.Prelude.{All, filter, flat_map, nat_le, nat_lt}
use Rattle.std.specs.FinMap.{contains_key}
use Rattle.std.specs.List.{AllByRecursion, list_any}
use Rattle.std.specs.Str.{bytes_eq}
use Rattle.std.proofs.lemmas.Bool.Decides.{nat_tests}
use Rattle.std.proofs.lemmas.List.{get_or-replicate, length-append, length-map}
use Rattle.std.proofs.lemmas.List.Elements.{All-nil, All-append, All-filter, All-weaker, filter-append, recursion_from_All}
use Rattle.std.proofs.lemmas.List.Folds.{list_any-append}
use Rattle.std.proofs.lemmas.List.Kept.{IsStrictlySortedBy-filter}
use Rattle.cs_base.specs.content.Orders.{AreSorted, by_place}
use Rattle.cs_base.specs.declared.content.doc.Post.{Post}
use Rattle.cs_base.specs.declared.content.limits.TheConstants.{MAX_DOCS}
use Rattle.cs_base.proofs.ListsLemmas.{all_of, and_true, any_through, filter_alike, filter_through, filter_twice}
use Rattle.cs_base.proofs.MembersLemmas.{all_then}
use Rattle.cs_file.specs.Indexes.{AreMet, StandsFor}
use Rattle.cs_file.proofs.PostsLemmas.{posts_between, posts_known}
use Rattle.cs_file.proofs.StoodLemmas.{stood_count}
use Rattle.cs_model.specs.Answers.{begins}
use Rattle.cs_model_index.specs.Images.{image_posts}
use Rattle.cs_model_index.specs.Sections.{image_of}
use Rattle.cs_model_kept.specs.Sharp.{lies_in}
use Rattle.cs_tables.specs.TableListings.{with_word}
use Rattle.cs_tables.specs.WordCounts.{AreCountable, is_chosen}
use Rattle.cs_rows.specs.Blockwise.{AreMany}
use Rattle.cs_rows.specs.Counting.{counted_rows}
use Rattle.cs_rows.specs.IndexReading.{IsWithin, stock_of}
use Rattle.cs_rows.specs.Sources.{IsIn, IsSource, IsTold, is_there, all_rows}
use Rattle.cs_rows.specs.Sources as sources
use Rattle.cs_rows.specs.Stocked.{IsKnown, IsStocked, is_between}
use Rattle.cs_rows.proofs.AlikeLemmas.{any_filter}
use Rattle.cs_rows.proofs.AskedWords.{met_holds}
use Rattle.cs_rows.proofs.BoundedBlocks.{blocks_bounded}
use Rattle.cs_rows.proofs.CountingLemmas.{countable, stock_within}
use Rattle.cs_rows.proofs.FoundLemmas.{stays}
use Rattle.cs_rows.proofs.OpenedLemmas.{opened_told}
use Rattle.cs_rows.proofs.StockLemmas.{docs_are, score_fits, stocked}
use Rattle.cs_live.specs.States.{IsState, StateView, now_posts, rank, renumbered, source_now, stock_now, titles_now}
use Rattle.cs_live.proofs.ByWordLemmas.{all_by, any_by, countable_by, swapped}
use Rattle.cs_live.proofs.NumberLemmas.{known_word, old_met_prefix, old_met_word, old_range, old_asked, rank_step}
use Rattle.cs_live.proofs.NowLemmas.{all_now, between_now, block_now, chosen_now, dropped_parts, drop_map, flat_parts, flat_same, flat_through, now_flat, now_pieces, now_rises, sorted_behind}
use Rattle.cs_live.proofs.NowLemmas.{take_map, taken_parts}
use Rattle.cs_live.proofs.PresentTitles.{titled_docs, titled_there}

-- ---- lists of blocks
flat_filter : (t : Post → Bool) (bs : List (List Post)) → flat_map (filter t) bs ≡ filter t (flat_map (λ block. block) bs)
flat_filter t [] = refl
flat_filter t (b ∷ bs) = ap (λ x. filter t b ++ x) (flat_filter t bs) ∙ sym (filter-append t b (flat_map (λ block. block) bs))

flat_whole : (P : Post → Type 0) (bs : List (List Post)) → AllByRecursion (λ b. All P b) bs → All P (flat_map (λ block. block) bs)
flat_whole P [] h = All-nil P
flat_whole P (b ∷ bs) h = All-append P b (flat_map (λ block. block) bs) h.0 (flat_whole P bs h.1)

-- ---- tests of numbers
one_number : (w m : ℕ) → (m == w) ≡ (nat_le w m && nat_lt m (w + 1))
one_number w m = grind (arith, nat_tests)

only_word : (low high x : ℕ) → high ≤ low + 1 → ((nat_le low x && nat_lt x high) && (x == low)) ≡ (nat_le low x && nat_lt x high)
only_word low high x le = grind (arith, nat_tests)

-- ---- the state
module _ (s : StateView) (is : IsState s) where
  abbrev N : List Post → List Post
  N = now_posts s.shift s.present

  word_in : (n : ℕ) → n < length s.index.words → n < length s.shift
  word_in n lt = known_word s.index s.words s.shift is.shift n lt

  module _ (b : List ℕ) (stands : StandsFor b s.index) where
    abbrev flat : List Post
    flat = image_posts (image_of b)

    abbrev old : List Post
    old = (stock_of b).posts

    abbrev OldPost : Post → Type 0
    OldPost = IsWithin s.index.docs (length s.index.words)

    own : IsTold (sources.source_of s.index) b
    own = opened_told s.index is.index b stands

    old_within : All OldPost old
    old_within = (stock_within b s.index stands is.index).within

    words_known : All (λ p. p.word < length s.shift) flat
    words_known = All-weaker (λ p. (p.word < length s.index.words) × (p.doc < s.index.docs)) (λ p. p.word < length s.shift) (λ p h. word_in p.word h.0)
        flat (posts_known b s.index stands is.index)

    stock_known : All (λ p. p.word < length s.shift) old
    stock_known = All-weaker OldPost (λ p. p.word < length s.shift) (λ p h. word_in p.word h.word) old old_within

    abbrev titles : List (List ℕ)
    titles = (image_of b).titles ++ s.added

    -- there is one for each number
    pub titles_long : length s.present ≡ length ((image_of b).titles ++ s.added)
    titles_long =
        let both = length-append (image_of b).titles s.added in
        let docs = docs_are b s.index stands is.index in
        let count = is.count in
        omega (arith, both, docs, count)

    title_there : (p : Post) → is_there s.present p ≡ true → contains_key (titles_now s.present titles) p.doc ≡ true
    title_there p here = titled_there s.present titles p.doc titles_long ∙ here

    now_known : All (IsKnown (stock_now s b)) (stock_now s b).posts
    now_known = All-append (IsKnown (stock_now s b)) (N old) s.held
        (all_now s.shift s.present OldPost (IsKnown (stock_now s b)) old
        (λ p e h. (record {
          doc = title_there p e;
          word = is.shift.below p.word 0 (word_in p.word h.word);
          score_from = h.score_from;
          score_to = h.score_to;
        })) old_within)
        (All-weaker (IsIn (source_now s)) (IsKnown (stock_now s b)) (λ p h.
        (let r = h.ranged in
        let score = score_fits s.index.weights is.index.weights r.facet p r.scored in
        record { doc = title_there p h.there; word = r.word; score_from = score.0; score_to = score.1 })) s.held is.held)

    now_sorted : AreSorted (stock_now s b).posts
    now_sorted = sorted_behind s.index.docs (N old) s.held
        (now_rises s.shift s.present is.shift.rises old stock_known (stocked b s.index stands is.index).sorted) is.held_sorted
        (recursion_from_All (λ p. p.doc < s.index.docs) (N old) (all_now s.shift s.present OldPost (λ p. p.doc < s.index.docs) old (λ p e h. h.doc) old_within))
        (recursion_from_All (λ p. s.index.docs ≤ p.doc) s.held is.held_later)

    -- ---- members, and how many there are
    abbrev older : (Post → Bool) → Post → Bool
    older t p = is_there s.present p && t (renumbered s.shift p)

    any_now : (t : Post → Bool) (xs : List Post) → list_any t (N xs) ≡ list_any (older t) xs
    any_now t xs =
        any_through (renumbered s.shift) t (filter (is_there s.present) xs) ∙ any_filter (λ p. t (renumbered s.shift p)) (is_there s.present) xs

    long_now : (t : Post → Bool) (xs : List Post) → length (filter t (N xs)) ≡ length (filter (older t) xs)
    long_now t xs =
        ap length (sym (filter_through (renumbered s.shift) t (filter (is_there s.present) xs)))
        ∙ length-map (filter (λ p. t (renumbered s.shift p)) (filter (is_there s.present) xs)) (renumbered s.shift)
        ∙ ap length (sym (filter_twice (is_there s.present) (λ p. t (renumbered s.shift p)) xs))

    flat_any : (t : Post → Bool) → list_any t flat ≡ list_any t old
    flat_any t = sym (ap (list_any t) (append-nil flat)) ∙ own.alike t

    flat_long : (t : Post → Bool) → length (filter t flat) ≡ length (filter t old)
    flat_long t = sym (ap (λ ps. length (filter t ps)) (append-nil flat)) ∙ own.long t

    now_any : (t : Post → Bool) → list_any t (all_rows (source_now s) b) ≡ list_any t (stock_now s b).posts
    now_any t =
        ap (λ xs. list_any t (xs ++ s.by_word)) (now_flat s.shift s.present (image_of b).blocks)
        ∙ list_any-append t (N flat) s.by_word
        ∙ ap₂ (λ c d. c || d) (any_now t flat ∙ flat_any (older t) ∙ sym (any_now t old)) (any_by t s.held s.by_word is.by_word)
        ∙ sym (list_any-append t (N old) s.held)

    both_long : (t : Post → Bool) (xs ys : List Post) → length (filter t (xs ++ ys)) ≡ length (filter t xs) + length (filter t ys)
    both_long t xs ys = ap length (filter-append t xs ys) ∙ length-append (filter t xs) (filter t ys)

    now_long : (t : Post → Bool) → length (filter t (all_rows (source_now s) b)) ≡ length (filter t (stock_now s b).posts)
    now_long t =
        ap (λ xs. length (filter t (xs ++ s.by_word))) (now_flat s.shift s.present (image_of b).blocks)
        ∙ both_long t (N flat) s.by_word
        ∙ ap₂ (λ m n. m + n) (long_now t flat ∙ flat_long (older t) ∙ sym (long_now t old)) (is.by_word.same t)
        ∙ sym (both_long t (N old) s.held)

    -- ---- blocks that hold some words
    between_posts : (lo hi : ℕ) (xs : List Post) → All (λ p. p.word < length s.shift) xs
        → filter (is_between lo hi) (N xs) ≡ N (filter (is_between (rank s.shift lo) (rank s.shift hi)) xs)
    between_posts lo hi xs h = chosen_now s.shift s.present (is_between (rank s.shift lo) (rank s.shift hi)) (is_between lo hi) xs
        (All-weaker (λ p. p.word < length s.shift) (λ p. is_between lo hi (renumbered s.shift p) ≡ is_between (rank s.shift lo) (rank s.shift hi) p)
        (λ p l. between_now s.shift is.shift.rises lo hi p l) xs h)

    cut_now : (first last : ℕ) → take (last - first) (drop first (map N (image_of b).blocks)) ≡ map N (take (last - first) (drop first (image_of b).blocks))
    cut_now first last = ap (take (last - first)) (drop_map N first (image_of b).blocks) ∙ take_map N (last - first) (drop first (image_of b).blocks)

    cut_parts : (P : Post → Type 0) (first last : ℕ) → All P flat → AllByRecursion (λ x. All P x) (take (last - first) (drop first (image_of b).blocks))
    cut_parts P first last h = taken_parts (λ x. All P x) (last - first) (drop first (image_of b).blocks)
        (dropped_parts (λ x. All P x) first (image_of b).blocks (flat_parts P (image_of b).blocks (recursion_from_All P flat h)))

    run_now : (lo hi first last : ℕ) → AreMet s.index.heads (rank s.shift lo) (rank s.shift hi) first last
        → filter (is_between lo hi) (flat_map (λ block. block) (map N (image_of b).blocks))
        ≡ flat_map (filter (is_between lo hi)) (take (last - first) (drop first (map N (image_of b).blocks)))
    run_now lo hi first last met =
        let rl = rank s.shift lo in
        let rh = rank s.shift hi in
        let bs = (image_of b).blocks in
        let cut = take (last - first) (drop first bs) in
        let P : Post → Type 0 = λ p. p.word < length s.shift in
        ap (filter (is_between lo hi)) (now_flat s.shift s.present bs)
        ∙ between_posts lo hi flat words_known
        ∙ ap N (posts_between b s.index stands is.index rl rh first last met)
        ∙ now_pieces s.shift s.present (filter (is_between rl rh)) cut
        ∙ sym (flat_same (λ x. filter (is_between lo hi) (N x)) (λ x. N (filter (is_between rl rh) x)) cut
        (all_then (λ x. All P x) (λ x. filter (is_between lo hi) (N x) ≡ N (filter (is_between rl rh) x)) (between_posts lo hi) cut
        (cut_parts P first last words_known)))
        ∙ sym (flat_through (filter (is_between lo hi)) N cut)
        ∙ sym (ap (flat_map (filter (is_between lo hi))) (cut_now first last))

    -- ---- counting
    module _ (first last : ℕ) (le : first ≤ last) (within : last ≤ length s.index.heads) where
      abbrev some : List Post
      some = flat_map (λ block. block) (take (last - first) (drop first (image_of b).blocks))

      some_known : All (λ p. (p.word < length s.index.words) × (p.doc < s.index.docs)) some
      some_known = flat_whole (λ p. (p.word < length s.index.words) × (p.doc < s.index.docs)) (take (last - first) (drop first (image_of b).blocks))
          (cut_parts (λ p. (p.word < length s.index.words) × (p.doc < s.index.docs)) first last (posts_known b s.index stands is.index))

      -- posts of one word of the index in these blocks
      old_in_order : (low high : ℕ) → high ≤ low + 1 → AreSorted (filter (is_between low high) some)
      old_in_order low high short =
          let all = replicate s.index.docs true in
          let ch = is_chosen low high all in
          let cut = take (last - first) (drop first (image_of b).blocks) in
          let each : All (λ p. (ch p && (p.word == low)) ≡ is_between low high p) some =
          All-weaker (λ p. (p.word < length s.index.words) × (p.doc < s.index.docs)) (λ p. (ch p && (p.word == low)) ≡ is_between low high p)
          (λ p h. ap (λ c. (is_between low high p && c) && (p.word == low)) (get_or-replicate s.index.docs p.doc true false h.1)
          ∙ ap (λ c. c && (p.word == low)) (and_true (is_between low high p)) ∙ only_word low high p.word short) some some_known in
          let same : with_word low (counted_rows (image_of b).blocks first last low high all) ≡ filter (is_between low high) some =
          ap (with_word low) (flat_filter ch cut) ∙ sym (filter_twice ch (λ p. p.word == low) some)
          ∙ filter_alike (λ p. ch p && (p.word == low)) (is_between low high) some
          (recursion_from_All (λ p. (ch p && (p.word == low)) ≡ is_between low high p) some each) in
          subst AreSorted same ((countable b s.index stands is.index first last low high all le within).ordered low)

      some_words : All (λ p. p.word < length s.shift) some
      some_words = All-weaker (λ p. (p.word < length s.index.words) × (p.doc < s.index.docs)) (λ p. p.word < length s.shift) (λ p h. word_in p.word h.0)
          some some_known

      now_in_order : (w : ℕ) → AreSorted (with_word w (N some))
      now_in_order w =
          let rl = rank s.shift w in
          let rh = rank s.shift (w + 1) in
          let mine : with_word w (N some) ≡ N (filter (is_between rl rh) some) = filter_alike (λ p. p.word == w) (is_between w (w + 1)) (N some)
          (all_of (λ p. (p.word == w) ≡ is_between w (w + 1) p) (λ p. one_number w p.word) (N some)) ∙ between_posts w (w + 1) some some_words in
          subst AreSorted (sym mine)
          (now_rises s.shift s.present is.shift.rises (filter (is_between rl rh) some)
          (All-filter (is_between rl rh) (λ p. p.word < length s.shift) some some_words)
          (old_in_order rl rh (rank_step s.shift is.shift.rises w)))

      countable_now : (lo hi : ℕ) (listed : List Bool)
          → AreCountable (counted_rows (map N (image_of b).blocks) first last lo hi listed ++ filter (is_chosen lo hi listed) s.by_word)
      countable_now lo hi listed =
          let u = is_chosen lo hi listed in
          let cut = take (last - first) (drop first (image_of b).blocks) in
          let more = filter u s.held in
          let piece : counted_rows (map N (image_of b).blocks) first last lo hi listed ≡ filter u (N some) =
          ap (flat_map (filter u)) (cut_now first last) ∙ flat_filter u (map N cut) ∙ ap (filter u) (now_flat s.shift s.present cut) in
          let few = is.few_docs in
          let count = is.count in
          subst (λ xs. AreCountable (xs ++ filter u s.by_word)) (sym piece) (countable_by (filter u (N some)) s.held s.by_word u is.by_word (record {
            ordered = λ w.
                let here = with_word w (filter u (N some)) in
                let front : AreSorted here = subst AreSorted (sym (swapped u (λ p. p.word == w) (N some)))
                (IsStrictlySortedBy-filter by_place u (with_word w (N some)) (now_in_order w)) in
                let back : AreSorted (with_word w more) = IsStrictlySortedBy-filter by_place (λ p. p.word == w) more
                (IsStrictlySortedBy-filter by_place u s.held is.held_sorted) in
                let low : All (λ p. p.doc < s.index.docs) (N some) = all_now s.shift s.present (λ p. (p.word < length s.index.words) × (p.doc < s.index.docs))
                (λ p. p.doc < s.index.docs) some (λ p e h. h.1) some_known in
                subst AreSorted (sym (filter-append (λ p. p.word == w) (filter u (N some)) more))
                (sorted_behind s.index.docs here (with_word w more) front back
                (recursion_from_All (λ p. p.doc < s.index.docs) here
                (All-filter (λ p. p.word == w) (λ p. p.doc < s.index.docs) (filter u (N some)) (All-filter u (λ p. p.doc < s.index.docs) (N some) low)))
                (recursion_from_All (λ p. s.index.docs ≤ p.doc) (with_word w more)
                (All-filter (λ p. p.word == w) (λ p. s.index.docs ≤ p.doc) more (All-filter u (λ p. s.index.docs ≤ p.doc) s.held is.held_later))));
            few_docs = All-append (λ p. p.doc < MAX_DOCS) (filter u (N some)) more
                (All-filter u (λ p. p.doc < MAX_DOCS) (N some)
                (all_now s.shift s.present (λ p. (p.word < length s.index.words) × (p.doc < s.index.docs)) (λ p. p.doc < MAX_DOCS) some
                (λ p e h. omega (arith, h.1, few, count)) some_known))
                (All-filter u (λ p. p.doc < MAX_DOCS) s.held
                (All-weaker (IsIn (source_now s)) (λ p. p.doc < MAX_DOCS) (λ p h. (let doc = h.ranged.doc in omega (arith, doc, few))) s.held is.held));
          }))

    -- ---- over the bytes
    now_stocked : IsStocked (stock_now s b)
    now_stocked = record {
      words = is.ascending;
      few_words = is.few_words;
      texts = is.texts;
      sorted = now_sorted;
      known = now_known;
    }

    pub state_told : IsTold (source_now s) b
    state_told = record {
      stocked = now_stocked;
      docs = sym (titled_docs s.present titles titles_long);
      words = refl;
      bytes = refl;
      count = length-map (image_of b).blocks N ∙ stood_count b s.index stands;
      lie = λ k h lt.
          block_now s.shift s.present (λ d. lies_in (get_or s.index.heads k h) d ≡ true) (image_of b).blocks k (blocks_bounded b s.index stands k h lt);
      alike = now_any;
      long = now_long;
      run = run_now;
      countable = λ first last lo hi listed le within. countable_now first last le within lo hi listed;
    }

  pub state_source : IsSource (source_now s)
  state_source = record {
    index = is.index;
    few_docs = is.few_docs;
    long = refl;
    few_words = is.few_words;
    ascending = is.ascending;
    texts = is.texts;
    held = all_by (IsIn (source_now s)) s.held s.by_word is.by_word is.held;
    prefix_met = λ p lo hi range. old_met_prefix s.index s.words s.shift is.shift is.index p lo hi range;
    word_met = λ w lo hi span short none. old_met_word s.index s.words s.shift is.shift is.index w lo hi span short;
    prefix_held = λ p lo hi range.
        let old = old_range s.index s.words s.shift is.shift p lo hi range in
        met_holds s.index is.index (begins p) (rank s.shift lo) (rank s.shift hi) old.holds old.within;
    word_held = λ w lo hi span.
        let old = old_asked s.index s.words s.shift is.shift (λ x. bytes_eq x w) lo hi span in
        met_holds s.index is.index (λ x. bytes_eq x w) (rank s.shift lo) (rank s.shift hi) old.holds old.within;
    told = state_told;
  }

  -- ---- many posts
  pub many_now : s.whole ≡ true → (lo hi : ℕ) → AreMany (sources.source_of s.index) (rank s.shift lo) (rank s.shift hi) → AreMany (source_now s) lo hi
  many_now whole lo hi many b stands =
      let rl = rank s.shift lo in
      let rh = rank s.shift hi in
      let posts = (stock_of b).posts in
      let mine = filter (is_between rl rh) posts in
      let all_there : AllByRecursion (λ p. is_there s.present p ≡ true) mine = recursion_from_All (λ p. is_there s.present p ≡ true) mine
      (All-filter (is_between rl rh) (λ p. is_there s.present p ≡ true) posts
      (All-weaker (IsWithin s.index.docs (length s.index.words)) (λ p. is_there s.present p ≡ true) (λ p h. is.whole whole p.doc h.doc) posts
      (old_within b stands))) in
      let same : length (filter (is_between lo hi) (N posts)) ≡ length mine = ap length (between_posts b stands lo hi posts (stock_known b stands))
      ∙ length-map (filter (is_there s.present) mine) (renumbered s.shift) ∙ ap length (stays (is_there s.present) mine all_there) in
      let both = both_long b stands (is_between lo hi) (N posts) s.held in
      let more = many b stands in
      omega (arith, same, both, more)
