-- Rows brought into a state.
--
--   moved_rows      posts stand for the same rows by the numbers behind
--   moved_shift     numbers through both vocabularies
--   moved_posts     the index's posts as they are behind
--   met_words       the words of a state and of rows that wait are words
--   by_word_known   the words of rows in memory are words of the state
--   settled_is      a state it is
--   settled_placed  its rows in memory in order of place are the listing of those by word
--   settled_rows    with the rows behind its own
--   taken, none_settled    rows that wait are brought in; no rows are
--   settled_keeps, same_keeps    the corpus stays where they are brought in, or wait on
--   tried_keeps, ok_keeps, ok_later      by what a call answers that brings them in
use Rattle.std.proofs.Common.{◌≡◌, ℕ, ◌+◌, ◌<◌, ◌≤◌, ◌||◌, Bool, true, false, List, [], ◌∷◌, ◌++◌, length, drop, get_or, map, refl, sym, ap, ap₂, subst, ◌∙◌, arith, append-nil, append_assoc, length-append}
use Rattle.std.specs.Prelude.{All, Err, Ok, OnErr, OnOk, Result, filter}
use Rattle.std.specs.List.{AllByRecursion, list_any}
use Rattle.std.specs.List.Sorted.{IsStrictlySortedBy}
use Rattle.std.specs.Ordering.{eq_by_cmp, nat_cmp}
use Rattle.std.specs.Cmp.Lexicographic.{slice_cmp}
use Rattle.std.specs.Str.{IsUtf8, bytes_eq, is_utf8}
use Rattle.std.specs.declared.cmp.Ordering.TheVariants.{Less}
use Rattle.std.proofs.lemmas.Bool.{and_parts}
use Rattle.std.proofs.lemmas.Bool.Decides.{nat_tests}
use Rattle.std.proofs.lemmas.Cmp.{nat_list_cmp_total}
use Rattle.std.proofs.lemmas.List.{get_or-map, length-map, map-append}
use Rattle.std.proofs.lemmas.List.Elements.{All-append, All-filter, All-from_recursion, All-map, All-nil, All-weaker, recursion_from_All}
use Rattle.std.proofs.lemmas.List.Folds.{list_any-append, list_any_at}
use Rattle.std.proofs.lemmas.Slice.Eq.{bytes_eq-Decides}
use Rattle.std.proofs.lemmas.Map.Keys.{Less-from_sorted}
use Rattle.std.proofs.lemmas.Map.Lookups.{exact_bytes}
use Rattle.std.proofs.lemmas.Str.{IsUtf8-from_is_utf8}
use Rattle.cs_base.specs.content.Members.{members_in}
use Rattle.cs_base.specs.content.Orders.{AreDocs, AreSorted}
use Rattle.cs_base.specs.declared.content.doc.Post.{Post}
use Rattle.cs_base.specs.declared.content.doc.Row.{Row}
use Rattle.cs_base.specs.declared.content.limits.TheConstants.{MAX_WORDS}
use Rattle.cs_base.proofs.MembersLemmas.{all_then, is_member-listed, listed_itself, listing-rises, members-alike}
use Rattle.cs_rows.specs.IndexReading.{IsWithin, by_post, stock_of}
use Rattle.cs_rows.specs.Sources.{IsIn, is_there}
use Rattle.cs_rows.proofs.CountingLemmas.{stock_within}
use Rattle.cs_file.specs.Indexes.{StandsFor}
use Rattle.cs_merge.specs.Vocabularies.{AreMerged, AreOfWordSize, IsShift, nth_word}
use Rattle.cs_merge.specs.declared.vocabulary.Merging.{Merging}
use Rattle.cs_vocab.specs.Ranges.{AreNumbers, IsBelow}
use Rattle.cs_model.specs.Corpus.{distinct_words}
use Rattle.cs_model_index.specs.Numbered.{HasWord, numbered, post_of, row_of, rows_at, word_at, word_number}
use Rattle.cs_model_index.specs.Partitions.{is_facet}
use Rattle.cs_model_index.proofs.Listings.{listed_each, listed_few}
use Rattle.cs_model_index.proofs.NumberedLemmas.{number_below, number_of_word, posts_ascend, rows_of_numbered}
use Rattle.cs_model_index.proofs.TextLimits.{word_length}
use Rattle.cs_live.specs.Lives.{AreWaiting, IsGoodRow, IsSettled, KeepsCorpus}
use Rattle.cs_live.specs.Settling.{AreSettled, HaveWordSize, row_posts, words_met}
use Rattle.cs_live.specs.States.{AreByWord, IsState, StateView, now_posts, renumbered, source_now, stock_now}
use Rattle.cs_live.specs.declared.settling.Settled.{Settled}
use Rattle.cs_live.proofs.BeginningLemmas.{none_waiting}
use Rattle.cs_live.proofs.ByWordLemmas.{all_by, placed}
use Rattle.cs_live.proofs.NowLemmas.{all_now, new_rises, sorted_behind}

-- ---- numbers through another vocabulary
is_less : (x y : ℕ) → nat_cmp x y ≡ Less → x < y
is_less x y h = grind (arith, nat_tests)

abbrev at : List ℕ → ℕ → ℕ
at first n = get_or first n 0

rest_rise : (first : List ℕ) → AreDocs first → (n : ℕ) (ns : List ℕ) → AllByRecursion (λ m. m < length first) ns → AllByRecursion (λ m. nat_cmp n m ≡ Less) ns
    → AllByRecursion (λ m. nat_cmp (at first n) m ≡ Less) (map (at first) ns)
rest_rise first up n [] l h = tt
rest_rise first up n (m ∷ ns) l h = (Less-from_sorted nat_cmp first n m 0 up (is_less n m h.0) l.0, rest_rise first up n ns l.1 h.1)

numbers_rise : (first : List ℕ) → AreDocs first → (ns : List ℕ) → AllByRecursion (λ m. m < length first) ns → AreDocs ns → AreDocs (map (at first) ns)
unfolding IsStrictlySortedBy
numbers_rise first up [] l h = tt
numbers_rise first up (n ∷ ns) l h = (rest_rise first up n ns l.1 h.0, numbers_rise first up ns l.1 h.1)

module _ (words new : List (List ℕ)) (first : List ℕ) (is : IsShift words new first) where
  in_first : (n : ℕ) → n < length words → n < length first
  in_first n lt = let long = is.long in omega (arith, lt, long)

  moved_row : (p : Post) → p.word < length words → row_of new (renumbered first p) ≡ row_of words p
  moved_row p lt = ap (λ w. let r : Row = record { doc = p.doc; word = w; pos = p.pos; score = p.score } in r) (is.same p.word lt)

  pub moved_rows : (ps : List Post) → AllByRecursion (λ p. p.word < length words) ps → rows_at new (map (renumbered first) ps) ≡ rows_at words ps
  moved_rows [] h = refl
  moved_rows (p ∷ ps) h = ap₂ (λ x y. x ∷ y) (moved_row p h.0) (moved_rows ps h.1)

  pub moved_shift : (old : List (List ℕ)) (shift : List ℕ) → IsShift old words shift → IsShift old new (map (at first) shift)
  moved_shift old shift o =
      let inside : All (λ n. n < length first) shift = All-weaker (λ n. n < length words) (λ n. n < length first) in_first shift o.below in
      record {
        long = length-map shift (at first) ∙ o.long;
        rises = numbers_rise first is.rises shift (recursion_from_All (λ n. n < length first) shift inside) o.rises;
        below = All-map (λ n. n < length new) (at first) shift (All-weaker (λ n. n < length first) (λ n. at first n < length new) (λ n lt. is.below n 0 lt) shift inside);
        same = λ n lt.
            let long = o.long in
            let here : n < length shift = omega (arith, lt, long) in
            ap (nth_word new) (get_or-map (at first) shift n 0 0 here) ∙ is.same (get_or shift n 0) (o.below n 0 here) ∙ o.same n lt;
      }

moved_post : (first shift : List ℕ) (p : Post) → p.word < length shift → renumbered (map (at first) shift) p ≡ renumbered first (renumbered shift p)
moved_post first shift p lt = ap (λ n. let q : Post = record { doc = p.doc; word = n; pos = p.pos; score = p.score } in q) (get_or-map (at first) shift p.word 0 0 lt)

moved_all : (first shift : List ℕ) (ps : List Post) → AllByRecursion (λ p. p.word < length shift) ps
    → map (renumbered (map (at first) shift)) ps ≡ map (renumbered first) (map (renumbered shift) ps)
moved_all first shift [] h = refl
moved_all first shift (p ∷ ps) h = ap₂ (λ x y. x ∷ y) (moved_post first shift p h.0) (moved_all first shift ps h.1)

pub moved_posts : (first shift : List ℕ) (present : List Bool) (ps : List Post) → All (λ p. p.word < length shift) ps
    → now_posts (map (at first) shift) present ps ≡ map (renumbered first) (now_posts shift present ps)
moved_posts first shift present ps h =
    moved_all first shift (filter (is_there present) ps)
    (recursion_from_All (λ p. p.word < length shift) (filter (is_there present) ps) (All-filter (is_there present) (λ p. p.word < length shift) ps h))

-- ---- words
pub good_size : (w : _) (rows : List Row) → All (IsGoodRow w) rows → HaveWordSize rows
good_size w rows h =
    All-map (λ v. (1 ≤ length v) × (length v ≤ 138)) (λ (r : Row). r.word) rows
    (All-weaker (IsGoodRow w) (λ r. (1 ≤ length r.word) × (length r.word ≤ 138)) (λ r g. word_length r.word g.word) rows h)

good_text : (w : _) (rows : List Row) → All (IsGoodRow w) rows → All IsUtf8 (map (λ r. r.word) rows)
good_text w rows h =
    All-map IsUtf8 (λ (r : Row). r.word) rows
    (All-weaker (IsGoodRow w) (λ r. IsUtf8 r.word) (λ r g. IsUtf8-from_is_utf8 r.word (and_parts (is_utf8 r.word) _ g.word).0) rows h)

-- what holds of both holds of all
pub all_met : (P : List ℕ → Type 0) (words : List (List ℕ)) (rows : List Row) → All P words → All P (map (λ r. r.word) rows) → All P (words_met words rows)
all_met P words rows a b =
    let all = words ++ map (λ r. r.word) rows in
    All-from_recursion P (words_met words rows)
    (listed_each (slice_cmp nat_cmp) nat_list_cmp_total exact_bytes P all (recursion_from_All P all (All-append P words (map (λ r. r.word) rows) a b)))

pub met_rises : (words : List (List ℕ)) (rows : List Row) → IsStrictlySortedBy (slice_cmp nat_cmp) (words_met words rows)
met_rises words rows = listing-rises (slice_cmp nat_cmp) (words ++ map (λ r. r.word) rows)

pub all_distinct : (P : List ℕ → Type 0) (rows : List Row) → All P (map (λ r. r.word) rows) → All P (distinct_words rows)
all_distinct P rows h =
    let all = map (λ (r : Row). r.word) rows in
    All-from_recursion P (distinct_words rows) (listed_each (slice_cmp nat_cmp) nat_list_cmp_total exact_bytes P all (recursion_from_All P all h))

pub met_few : (words : List (List ℕ)) (rows : List Row) → length (words_met words rows) ≤ length words + length rows
met_few words rows =
    let few = listed_few (slice_cmp nat_cmp) nat_list_cmp_total exact_bytes (words ++ map (λ (r : Row). r.word) rows) in
    let both = length-append words (map (λ (r : Row). r.word) rows) in
    let many = length-map rows (λ (r : Row). r.word) in
    omega (arith, few, both, many)

-- rows may come one list behind the other
pub met_twice : (words : List (List ℕ)) (rows own : List Row) → words_met (words_met words rows) own ≡ words_met words (rows ++ own)
met_twice words rows own =
    let w : Row → List ℕ = λ r. r.word in
    members-alike (slice_cmp nat_cmp) nat_list_cmp_total exact_bytes (words_met words rows ++ map w own) (words ++ map w (rows ++ own)) (λ q.
    let is = eq_by_cmp (slice_cmp nat_cmp) q in
    list_any-append is (words_met words rows) (map w own)
    ∙ ap (λ b. b || list_any is (map w own)) (is_member-listed (slice_cmp nat_cmp) nat_list_cmp_total (words ++ map w rows) q)
    ∙ sym (list_any-append is (words ++ map w rows) (map w own))
    ∙ ap (list_any is) (append_assoc words (map w rows) (map w own) ∙ ap (λ l. words ++ l) (sym (map-append w rows own))))

-- the distinct words of rows are as good as all
pub met_distinct : (words : List (List ℕ)) (rows : List Row) → members_in (slice_cmp nat_cmp) (words ++ distinct_words rows) ≡ words_met words rows
met_distinct words rows =
    members-alike (slice_cmp nat_cmp) nat_list_cmp_total exact_bytes (words ++ distinct_words rows) (words ++ map (λ r. r.word) rows) (λ q.
    let is = eq_by_cmp (slice_cmp nat_cmp) q in
    list_any-append is words (distinct_words rows)
    ∙ ap (λ b. list_any is words || b) (is_member-listed (slice_cmp nat_cmp) nat_list_cmp_total (map (λ r. r.word) rows) q)
    ∙ sym (list_any-append is words (map (λ r. r.word) rows)))

-- ---- numbers of rows
no_rows_left : {X : Type 0} (A : Type 0) (x : X) (xs : List X) → [] ≡ x ∷ xs → A
no_rows_left A x xs e = absurd (omega (arith, ap length e))

no_numbers_left : {X : Type 0} (A : Type 0) (x : X) (xs : List X) → x ∷ xs ≡ [] → A
no_numbers_left A x xs e = absurd (omega (arith, ap length e))

module _ (ws own : List (List ℕ)) (second : List ℕ) (up : IsStrictlySortedBy (slice_cmp nat_cmp) ws) (is : IsShift own ws second) where
  in_second : (n : ℕ) → n < length own → n < length second
  in_second n lt = let long = is.long in omega (arith, lt, long)

  word_here : (n : ℕ) (w : List ℕ) → n < length own → get_or own n [] ≡ w → word_at ws (get_or second n 0) ≡ w
  word_here n w lt e = is.same n lt ∙ e

  number_here : (n : ℕ) (w : List ℕ) → n < length own → get_or own n [] ≡ w → get_or second n 0 ≡ word_number ws w
  number_here n w lt e =
      sym (number_of_word ws (get_or second n 0) up (is.below n 0 (in_second n lt))) ∙ ap (word_number ws) (word_here n w lt e)

  has_here : (n : ℕ) (w : List ℕ) → n < length own → get_or own n [] ≡ w → list_any (bytes_eq w) ws ≡ true
  has_here n w lt e =
      list_any_at (bytes_eq w) ws (get_or second n 0) [] (is.below n 0 (in_second n lt)) ((bytes_eq-Decides w (word_at ws (get_or second n 0))).1 (sym (word_here n w lt e)))

  pub posts_are : (ns : List ℕ) (rows : List Row) → map (λ n. get_or own n []) ns ≡ map (λ r. r.word) rows → AllByRecursion (IsBelow (length own)) ns
      → row_posts second ns rows ≡ numbered ws rows
  posts_are [] [] e l = refl
  posts_are [] (r ∷ rows) e l = no_rows_left _ r.word (map (λ r. r.word) rows) e
  posts_are (n ∷ ns) [] e l = no_numbers_left _ (get_or own n []) (map (λ n. get_or own n []) ns) e
  posts_are (n ∷ ns) (r ∷ rows) e l =
      let number = number_here n r.word l.0 (ap (λ x. get_or x 0 []) e) in
      ap₂ (λ w ps. (let p : Post = record { doc = r.doc; word = w; pos = r.pos; score = r.score } in p) ∷ ps) number (posts_are ns rows (ap (drop 1) e) l.1)

  pub rows_known : (ns : List ℕ) (rows : List Row) → map (λ n. get_or own n []) ns ≡ map (λ r. r.word) rows → AllByRecursion (IsBelow (length own)) ns → AllByRecursion (HasWord ws) rows
  rows_known ns [] e l = tt
  rows_known [] (r ∷ rows) e l = no_rows_left _ r.word (map (λ r. r.word) rows) e
  rows_known (n ∷ ns) (r ∷ rows) e l = (has_here n r.word l.0 (ap (λ x. get_or x 0 []) e), rows_known ns rows (ap (drop 1) e) l.1)

pub brought : (words : List (List ℕ)) (shift : List ℕ) (by_word : List Post) (rows : List Row) (own : List (List ℕ)) (ns : List ℕ) (m : Merging) (s : Settled) (new : List Post) → AreMerged words own m → own ≡ distinct_words rows
    → AreNumbers own ns (map (λ r. r.word) rows) → s.words ≡ m.words.items → s.shift.items ≡ map (λ n. get_or m.first.items n 0) shift
    → ((held : List Post) → AreByWord held by_word → AreByWord (map (renumbered m.first.items) held ++ row_posts m.second.items ns rows) new) → AreSettled words shift by_word rows s new
brought words shift by_word rows own ns m s new h own_is numbers same shift_is by_word_is =
    let below = recursion_from_All (IsBelow (length own)) ns numbers.below in
    let posts = posts_are m.words.items own m.second.items h.rises h.second ns rows numbers.told below ∙ ap (λ ws. numbered ws rows) (sym same) in
    record {
      first = m.first.items;
      is = subst (λ ws. IsShift words ws m.first.items) (sym same) h.first;
      all = same ∙ h.words ∙ ap (λ ws. members_in (slice_cmp nat_cmp) (words ++ ws)) own_is ∙ met_distinct words rows;
      known = subst (λ ws. AllByRecursion (HasWord ws) rows) (sym same) (rows_known m.words.items own m.second.items h.rises h.second ns rows numbers.told below);
      numbers = shift_is;
      posts = λ held is. subst (λ ps. AreByWord (map (renumbered m.first.items) held ++ ps) new) posts (by_word_is held is);
    }

-- ---- the state behind
abbrev pub settled_state : StateView → Settled → List Post → List Post → StateView
settled_state s m held by_word = record {
  index = s.index;
  words = m.words;
  shift = m.shift.items;
  present = s.present;
  whole = s.whole;
  held = held;
  by_word = by_word;
  added = s.added;
}

pub by_word_known : (s : StateView) → IsState s → All (λ p. p.word < length s.words) s.by_word
by_word_known s is =
    all_by (λ p. p.word < length s.words) s.held s.by_word is.by_word
    (All-weaker (IsIn (source_now s)) (λ p. p.word < length s.words) (λ p i. i.ranged.word) s.held is.held)

module _ (s : StateView) (is : IsState s) (rows : List Row) (w : AreWaiting s rows) (m : Settled) (by_word : List Post)
    (h : AreSettled s.words s.shift s.by_word rows m by_word) where
  abbrev own : List Post
  own = numbered m.words rows

  abbrev pub held_behind : List Post
  held_behind = map (renumbered h.first) s.held ++ own

  abbrev new : StateView
  new = settled_state s m held_behind by_word

  known : AllByRecursion (HasWord m.words) rows
  known = h.known

  held_words : AllByRecursion (λ p. p.word < length s.words) s.held
  held_words = recursion_from_All (λ p. p.word < length s.words) s.held (All-weaker (IsIn (source_now s)) (λ p. p.word < length s.words) (λ p i. i.ranged.word) s.held is.held)

  held_in : (p : Post) → IsIn (source_now s) p → IsIn (source_now new) (renumbered h.first p)
  held_in p i =
      let r = i.ranged in
      record {
        there = i.there;
        ranged = record { doc = r.doc; word = h.is.below p.word 0 (in_first s.words m.words h.first h.is p.word r.word); facet = r.facet; scored = r.scored };
      }

  row_in : (rs : List Row) → AllByRecursion (IsGoodRow s.index.weights) rs → AllByRecursion (λ r. get_or s.present r.doc false ≡ true) rs → AllByRecursion (λ r. r.doc < length s.present) rs
      → AllByRecursion (HasWord m.words) rs → AllByRecursion (IsIn (source_now new)) (numbered m.words rs)
  row_in [] g t b k = tt
  row_in (r ∷ rs) g t b k =
      let one : IsIn (source_now new) (post_of m.words r) = record {
        there = t.0;
        ranged = record { doc = b.0; word = number_below m.words r.word k.0; facet = is_facet r.word; scored = g.0.scored };
      } in
      (one, row_in rs g.1 t.1 b.1 k.1)

  docs_from : (n : ℕ) (rs : List Row) → AllByRecursion (λ r. n ≤ r.doc) rs → AllByRecursion (λ p. n ≤ p.doc) (numbered m.words rs)
  docs_from n [] l = tt
  docs_from n (r ∷ rs) l = (l.0, docs_from n rs l.1)

  docs_moved : (n : ℕ) (ps : List Post) → AllByRecursion (λ p. p.doc < n) ps → AllByRecursion (λ p. p.doc < n) (map (renumbered h.first) ps)
  docs_moved n [] l = tt
  docs_moved n (p ∷ ps) l = (l.0, docs_moved n ps l.1)

  later_moved : (n : ℕ) (ps : List Post) → AllByRecursion (λ p. n ≤ p.doc) ps → AllByRecursion (λ p. n ≤ p.doc) (map (renumbered h.first) ps)
  later_moved n [] l = tt
  later_moved n (p ∷ ps) l = (l.0, later_moved n ps l.1)

  rises : IsStrictlySortedBy (slice_cmp nat_cmp) m.words
  rises = subst (IsStrictlySortedBy (slice_cmp nat_cmp)) (sym h.all) (met_rises s.words rows)

  from_rows : AllByRecursion (λ r. w.from ≤ r.doc) rows
  from_rows = recursion_from_All (λ r. w.from ≤ r.doc) rows w.rows_from

  held_sorted : AreSorted held_behind
  held_sorted =
      sorted_behind w.from (map (renumbered h.first) s.held) own
      (new_rises h.first h.is.rises s.held (all_then (λ p. p.word < length s.words) (λ p. p.word < length h.first) (λ p lt. in_first s.words m.words h.first h.is p.word lt) s.held held_words) is.held_sorted)
      (posts_ascend m.words rises rows known w.spots)
      (docs_moved w.from s.held (recursion_from_All (λ p. p.doc < w.from) s.held w.held_below))
      (docs_from w.from rows from_rows)

  held_by_word : AreByWord held_behind by_word
  held_by_word = h.posts s.held is.by_word

  pub settled_placed : held_behind ≡ members_in by_post by_word
  settled_placed = placed held_behind by_word held_sorted held_by_word

  pub settled_is : length (words_met s.words rows) ≤ MAX_WORDS → IsState (settled_state s m held_behind by_word)
  settled_is few =
      let behind = w.behind in
      record {
        index = is.index;
        few_docs = is.few_docs;
        few_words = (let e = ap length h.all in omega (arith, e, few));
        ascending = rises;
        texts = subst (All IsUtf8) (sym h.all) (all_met IsUtf8 s.words rows is.texts (good_text s.index.weights rows w.good));
        sized = subst AreOfWordSize (sym h.all) (all_met (λ v. (1 ≤ length v) × (length v ≤ 138)) s.words rows is.sized (good_size s.index.weights rows w.good));
        shift = subst (IsShift s.index.words m.words) (sym h.numbers) (moved_shift s.words m.words h.first h.is s.index.words s.shift is.shift);
        count = is.count;
        whole = is.whole;
        held = All-append (IsIn (source_now new)) (map (renumbered h.first) s.held) own
            (All-map (IsIn (source_now new)) (renumbered h.first) s.held (All-weaker (IsIn (source_now s)) (λ p. IsIn (source_now new) (renumbered h.first p)) held_in s.held is.held))
            (All-from_recursion (IsIn (source_now new)) own (row_in rows (recursion_from_All (IsGoodRow s.index.weights) rows w.good)
            (recursion_from_All (λ r. get_or s.present r.doc false ≡ true) rows w.there) (recursion_from_All (λ r. r.doc < length s.present) rows w.below) known));
        held_sorted = held_sorted;
        held_later = All-append (λ p. s.index.docs ≤ p.doc) (map (renumbered h.first) s.held) own
            (All-from_recursion (λ p. s.index.docs ≤ p.doc) (map (renumbered h.first) s.held) (later_moved s.index.docs s.held (recursion_from_All (λ p. s.index.docs ≤ p.doc) s.held is.held_later)))
            (All-from_recursion (λ p. s.index.docs ≤ p.doc) own (docs_from s.index.docs rows (all_then (λ r. w.from ≤ r.doc) (λ r. s.index.docs ≤ r.doc) (λ r l. omega (arith, l, behind)) rows from_rows)));
        by_word = held_by_word;
        titles = is.titles;
      }

  pub settled_rows : (b : List ℕ) → StandsFor b s.index → rows_at m.words (stock_now (settled_state s m held_behind by_word) b).posts ≡ rows_at s.words (stock_now s b).posts ++ rows
  settled_rows b stands =
      let old = (stock_of b).posts in
      let long = is.shift.long in
      let old_words : All (λ p. p.word < length s.shift) old = All-weaker (IsWithin s.index.docs (length s.index.words)) (λ p. p.word < length s.shift)
      (λ p i. let lt = i.word in omega (arith, lt, long)) old (stock_within b s.index stands is.index).within in
      let now = now_posts s.shift s.present old in
      let now_words : AllByRecursion (λ p. p.word < length s.words) now = recursion_from_All (λ p. p.word < length s.words) now
      (all_now s.shift s.present (λ p. p.word < length s.shift) (λ p. p.word < length s.words) old (λ p e lt. is.shift.below p.word 0 lt) old_words) in
      let front : now_posts m.shift.items s.present old ≡ map (renumbered h.first) now =
      ap (λ ns. now_posts ns s.present old) h.numbers ∙ moved_posts h.first s.shift s.present old old_words in
      ap (λ xs. rows_at m.words (xs ++ held_behind)) front
      ∙ map-append (row_of m.words) (map (renumbered h.first) now) (map (renumbered h.first) s.held ++ own)
      ∙ ap₂ (λ xs ys. xs ++ ys) (moved_rows s.words m.words h.first h.is now now_words)
      (map-append (row_of m.words) (map (renumbered h.first) s.held) own
      ∙ ap₂ (λ xs ys. xs ++ ys) (moved_rows s.words m.words h.first h.is s.held held_words) (rows_of_numbered m.words rows known))
      ∙ sym (append_assoc (rows_at s.words now) (rows_at s.words s.held) rows)
      ∙ ap (λ xs. xs ++ rows) (sym (map-append (row_of s.words) now s.held))

-- where the state's own parts were handed on
pub taken : (s now : StateView) → s ≡ now → IsState now → (rows : List Row) → AreWaiting now rows → (shift : List ℕ) → shift ≡ s.shift
    → (m : Settled) (by_word : List Post) → AreSettled s.words shift s.by_word rows m by_word → length (words_met now.words rows) ≤ MAX_WORDS → 1 ≤ length rows
    → IsSettled now rows (settled_state s m (members_in by_post by_word) by_word)
taken s now same is rows w shift shift_is m by_word h few some =
    let own : AreSettled now.words now.shift now.by_word rows m by_word = subst (λ x. AreSettled x.words x.shift x.by_word rows m by_word) same
    (subst (λ ns. AreSettled s.words ns s.by_word rows m by_word) shift_is h) in
    subst (λ x. IsSettled now rows (settled_state x m (members_in by_post by_word) by_word)) (sym same)
    (subst (λ held. IsSettled now rows (settled_state now m held by_word)) (settled_placed now is rows w m by_word own) (record {
      is = settled_is now is rows w m by_word own few;
      index = refl;
      present = refl;
      whole = refl;
      added = refl;
      words = own.all;
      rows = settled_rows now is rows w m by_word own;
      same = λ none. absurd (let e = ap length none in omega (arith, e, some));
    }))

-- where no rows wait
pub none_settled : (s : StateView) → IsState s → (rows : List Row) → rows ≡ [] → IsSettled s rows s
none_settled s is rows none = subst (λ rs. IsSettled s rs s) (sym none) (record {
  is = is;
  index = refl;
  present = refl;
  whole = refl;
  added = refl;
  words = listed_itself (slice_cmp nat_cmp) nat_list_cmp_total exact_bytes s.words is.ascending ∙ ap (members_in (slice_cmp nat_cmp)) (sym (append-nil s.words));
  rows = λ b stands. sym (append-nil (rows_at s.words (stock_now s b).posts));
  same = λ e. refl;
})

-- ---- rows that are brought in, or wait on
pub settled_keeps : (s : StateView) (rows : List Row) (new : StateView) → IsSettled s rows new → KeepsCorpus s rows new []
settled_keeps s rows new h = record {
  is = h.is;
  waiting = none_waiting new h.is;
  few = omega arith;
  index = h.index;
  present = h.present;
  added = h.added;
  words = ap (λ ws. words_met ws []) h.words ∙ met_twice s.words rows [] ∙ ap (words_met s.words) (append-nil rows);
  rows = λ b stands. append-nil (rows_at new.words (stock_now new b).posts) ∙ h.rows b stands;
}

pub same_keeps : (s : StateView) → IsState s → (rows : List Row) → AreWaiting s rows → KeepsCorpus s rows s rows
same_keeps s is rows w = record {
  is = is;
  waiting = w;
  few = omega arith;
  index = refl;
  present = refl;
  added = refl;
  words = refl;
  rows = λ b stands. refl;
}

module _ {X E : Type 0} (s : StateView) (rows : List Row) (new : StateView) (left : List Row) where
  pub tried_keeps : (r : Result X E) → IsState s → AreWaiting s rows → OnOk r (IsSettled s rows new) → OnOk r (left ≡ []) → OnErr r (new ≡ s) → OnErr r (left ≡ rows)
      → KeepsCorpus s rows new left
  tried_keeps (Ok x) is w settled none state same = subst (KeepsCorpus s rows new) (sym none) (settled_keeps s rows new settled)
  tried_keeps (Err e) is w settled none state same =
      subst (λ n. KeepsCorpus s rows n left) (sym state) (subst (KeepsCorpus s rows s) (sym same) (same_keeps s is rows w))

  pub ok_keeps : (r : Result X E) → OnOk r (IsSettled s rows new) → OnOk r (left ≡ []) → OnOk r (KeepsCorpus s rows new left)
  ok_keeps (Ok x) settled none = subst (KeepsCorpus s rows new) (sym none) (settled_keeps s rows new settled)
  ok_keeps (Err e) settled none = tt

  pub ok_later : (r : Result X E) (d : ℕ) → OnOk r (left ≡ []) → OnOk r (All (λ q. d < q.doc) left)
  ok_later (Ok x) d none = subst (All (λ (q : Row). d < q.doc)) (sym none) (All-nil (λ (q : Row). d < q.doc))
  ok_later (Err e) d none = tt
