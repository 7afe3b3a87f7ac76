-- A document that is added.
--
--   still           what a loop that writes over a list hasn't reached
--   own_good, own_text      good rows, and a text as title
--   titled_is       a state with one title more
--   titled_posts    its posts stay
--   waiting_more    rows that wait, and those of the document behind them
--   rows_more       all rows with those of the document
use Rattle.std.proofs.Common.{◌≡◌, ℕ, zero, suc, take, drop, ◌+◌, ◌<◌, ◌≤◌, ◌||◌, Bool, true, false, List, [], ◌∷◌, ◌++◌, length, get_or, map, refl, sym, ap, subst, ◌∙◌, arith, length-append}
use Rattle.std.specs.Prelude.{All}
use Rattle.std.specs.List.{AllByRecursion, list_any}
use Rattle.std.specs.List.Sorted.{IsStrictlySortedBy}
use Rattle.std.specs.Ordering.{eq_by_cmp}
use Rattle.std.specs.Str.{is_utf8}
use Rattle.std.proofs.lemmas.List.{get_or_append_left}
use Rattle.std.proofs.lemmas.List.Elements.{All-append, All-from_recursion, All-map, All-weaker, recursion_from_All}
use Rattle.std.proofs.lemmas.List.Folds.{list_any-append}
use Rattle.std.proofs.lemmas.Str.{is_utf8-from_IsUtf8}
use Rattle.cs_base.specs.content.Members.{members_in}
use Rattle.cs_base.specs.content.Orders.{by_row, by_spot}
use Rattle.cs_base.specs.declared.content.doc.Doc.{Doc}
use Rattle.cs_base.specs.declared.content.doc.Post.{Post}
use Rattle.cs_base.specs.declared.content.doc.Row.{Row}
use Rattle.cs_base.specs.declared.content.limits.TheConstants.{MAX_DOCS}
use Rattle.cs_base.specs.declared.content.scores.Weights.{Weights}
use Rattle.cs_base.proofs.ListsLemmas.{filter_alike}
use Rattle.cs_base.proofs.MembersLemmas.{all_then, members_are}
use Rattle.cs_base.proofs.OrdersLemmas.{by_row_exact, by_row_total, rows_up}
use Rattle.cs_build.specs.Building.{KeepLimits}
use Rattle.cs_build.proofs.RowLemmas.{keep_limits}
use Rattle.cs_rows.specs.IndexReading.{IsWithin, stock_of}
use Rattle.cs_rows.specs.Sources.{IsIn, is_there}
use Rattle.cs_rows.proofs.CountingLemmas.{stock_within}
use Rattle.cs_file.specs.Indexes.{StandsFor}
use Rattle.cs_model.specs.Collection.{documents}
use Rattle.cs_model.specs.Corpus.{doc_rows, rows_of, title_of}
use Rattle.cs_model_changes.specs.Joined.{later_row}
use Rattle.cs_model_index.specs.Numbered.{row_of, rows_at}
use Rattle.cs_model_index.proofs.ReadRows.{rows_rise}
use Rattle.cs_live.specs.Lives.{AreWaiting, IsOnlyDoc, IsGoodRow}
use Rattle.cs_live.specs.States.{IsState, StateView, now_posts, renumbered, source_now, stock_now, with_title}
use Rattle.cs_live.proofs.NowLemmas.{all_now}
use Rattle.cs_live.proofs.AddedRows.{all_map, own_any, own_docs, own_spots, spots_behind}
use Rattle.cs_live.proofs.StateLemmas.{state_told}

-- ---- lists
-- what a loop that writes over a list hasn't reached
pub still : {X : Type 0} (f : X → X) (xs ys : List X) (i : ℕ) (d : X) → i < length xs → ys ≡ map f (take i xs) ++ drop i xs → get_or ys i d ≡ get_or xs i d
still f [] ys i d lt e = absurd (omega (arith, lt))
still f (x ∷ xs) ys zero d lt e = ap (λ l. get_or l 0 d) e
still f (x ∷ xs) ys (suc i) d lt e = ap (λ l. get_or l (suc i) d) e ∙ still f xs (map f (take i xs) ++ drop i xs) i d (omega (arith, lt)) refl

-- ---- the rows of a document
module _ (w : Weights) (n : ℕ) (doc : Doc) (a : IsOnlyDoc w doc) where
  limits : KeepLimits w (map title_of (doc ∷ [])) (rows_of w (doc ∷ []))
  limits =
      subst (λ ds. KeepLimits w (map title_of ds) (rows_of w ds)) (sym a.documents)
      (subst (λ v. KeepLimits v (map title_of (documents a.collection)) (rows_of v (documents a.collection))) a.weights (keep_limits a.collection a.accepted))

  pub own_good : All (IsGoodRow w) (map (later_row n) (rows_of w (doc ∷ [])))
  own_good =
      let rows = rows_of w (doc ∷ []) in
      All-map (IsGoodRow w) (later_row n) rows (λ k d l. record { word = limits.words k d l; scored = limits.scored k d l })

  pub own_text : is_utf8 doc.title ≡ true
  own_text = is_utf8-from_IsUtf8 doc.title (limits.texts 0 [] (omega arith))

-- ---- one title more
there_more : (ps : List Bool) (d : ℕ) → d < length ps → get_or (ps ++ true ∷ []) d false ≡ get_or ps d false
there_more ps d lt = get_or_append_left ps (true ∷ []) false d lt

there_last : (ps : List Bool) → get_or (ps ++ true ∷ []) (length ps) false ≡ true
there_last [] = refl
there_last (p ∷ ps) = there_last ps

module _ (s : StateView) (is : IsState s) (t : List ℕ) where
  abbrev new : StateView
  new = with_title s t

  one_more : length (s.present ++ true ∷ []) ≡ length s.present + 1
  one_more = length-append s.present (true ∷ [])

  held_more : (p : Post) → IsIn (source_now s) p → IsIn (source_now (with_title s t)) p
  held_more p i =
      let r = i.ranged in
      let doc = r.doc in
      let more = one_more in
      record {
        there = there_more s.present p.doc doc ∙ i.there;
        ranged = record { doc = omega (arith, doc, more); word = r.word; facet = r.facet; scored = r.scored };
      }

  pub titled_is : length s.present < MAX_DOCS → is_utf8 t ≡ true → IsState (with_title s t)
  titled_is few text =
      let more = one_more in
      let count = is.count in
      let both = length-append s.added (t ∷ []) in
      record {
        index = is.index;
        few_docs = omega (arith, few, more);
        few_words = is.few_words;
        ascending = is.ascending;
        texts = is.texts;
        sized = is.sized;
        shift = is.shift;
        count = omega (arith, count, more, both);
        whole = λ w d lt. there_more s.present d (omega (arith, lt, count)) ∙ is.whole w d lt;
        held = All-weaker (IsIn (source_now s)) (IsIn (source_now new)) held_more s.held is.held;
        held_sorted = is.held_sorted;
        held_later = is.held_later;
        by_word = is.by_word;
        titles = All-append (λ x. is_utf8 x ≡ true) s.added (t ∷ []) is.titles (All-from_recursion (λ x. is_utf8 x ≡ true) (t ∷ []) (text, tt));
      }

  pub titled_posts : (b : List ℕ) → StandsFor b s.index → (stock_now (with_title s t) b).posts ≡ (stock_now s b).posts
  titled_posts b stands =
      let old = (stock_of b).posts in
      let count = is.count in
      ap (λ ps. map (renumbered s.shift) ps ++ s.held)
      (filter_alike (is_there (s.present ++ true ∷ [])) (is_there s.present) old
      (recursion_from_All (λ p. is_there (s.present ++ true ∷ []) p ≡ is_there s.present p) old
      (All-weaker (IsWithin s.index.docs (length s.index.words)) (λ p. is_there (s.present ++ true ∷ []) p ≡ is_there s.present p)
      (λ p i. let doc = i.doc in there_more s.present p.doc (omega (arith, doc, count))) old (stock_within b s.index stands is.index).within)))

  -- ---- rows that wait
  module _ (rows : List Row) (w : AreWaiting s rows) (doc : Doc) (a : IsOnlyDoc s.index.weights doc) where
    abbrev n : ℕ
    n = length s.present

    abbrev own : List Row
    own = map (later_row n) (rows_of s.index.weights (doc ∷ []))

    own_n : AllByRecursion (λ r. r.doc ≡ n) own
    own_n = own_docs s.index.weights n doc

    rows_below : AllByRecursion (λ r. r.doc < n) rows
    rows_below = recursion_from_All (λ r. r.doc < n) rows w.below

    there_own : All (λ r. get_or (s.present ++ true ∷ []) r.doc false ≡ true) own
    there_own =
        All-from_recursion (λ r. get_or (s.present ++ true ∷ []) r.doc false ≡ true) own
        (all_then (λ r. r.doc ≡ n) (λ r. get_or (s.present ++ true ∷ []) r.doc false ≡ true) (λ r e. ap (λ d. get_or (s.present ++ true ∷ []) d false) e ∙ there_last s.present) own own_n)

    there_old : AllByRecursion (λ r. (get_or s.present r.doc false ≡ true) × (r.doc < n)) rows
    there_old = recursion_from_All (λ r. (get_or s.present r.doc false ≡ true) × (r.doc < n)) rows (λ k d l. (w.there k d l, w.below k d l))

    pub waiting_more : AreWaiting (with_title s t) (rows ++ map (later_row (length s.present)) (rows_of s.index.weights (doc ∷ [])))
    waiting_more =
        let more = one_more in
        let le = w.upto in
        let from : AllByRecursion (λ r. n ≤ r.doc) own = all_then (λ r. r.doc ≡ n) (λ r. n ≤ r.doc) (λ r e. omega (arith, e)) own own_n in
        record {
          spots = spots_behind n rows own w.spots (own_spots s.index.weights n doc) rows_below from;
          good = All-append (IsGoodRow s.index.weights) rows own w.good (own_good s.index.weights n doc a);
          there = All-append (λ r. get_or (s.present ++ true ∷ []) r.doc false ≡ true) rows own
              (All-from_recursion (λ r. get_or (s.present ++ true ∷ []) r.doc false ≡ true) rows
              (all_then (λ r. (get_or s.present r.doc false ≡ true) × (r.doc < n)) (λ r. get_or (s.present ++ true ∷ []) r.doc false ≡ true)
              (λ r h. there_more s.present r.doc h.1 ∙ h.0) rows there_old)) there_own;
          below = All-append (λ r. r.doc < length (s.present ++ true ∷ [])) rows own
              (All-weaker (λ r. r.doc < n) (λ r. r.doc < length (s.present ++ true ∷ [])) (λ r l. omega (arith, l, more)) rows w.below)
              (All-from_recursion (λ r. r.doc < length (s.present ++ true ∷ [])) own (all_then (λ r. r.doc ≡ n) (λ r. r.doc < length (s.present ++ true ∷ [])) (λ r e. omega (arith, e, more)) own own_n));
          from = w.from;
          behind = w.behind;
          upto = omega (arith, le, more);
          held_below = w.held_below;
          rows_from = All-append (λ r. w.from ≤ r.doc) rows own w.rows_from
              (All-from_recursion (λ r. w.from ≤ r.doc) own (all_then (λ r. r.doc ≡ n) (λ r. w.from ≤ r.doc) (λ r e. omega (arith, e, le)) own own_n));
        }

    -- ---- the corpus
    module _ (b : List ℕ) (stands : StandsFor b s.index) where
      abbrev posts : List Post
      posts = (stock_now s b).posts

      abbrev all : List Row
      all = rows_at s.words posts ++ rows

      posts_words : AllByRecursion (λ p. p.word < length s.words) posts
      posts_words =
          let told = (state_told s is b stands).stocked in
          recursion_from_All (λ p. p.word < length s.words) posts (λ k d l. (told.known k d l).word)

      posts_from : AllByRecursion (λ p. p.doc < w.from) posts
      posts_from =
          let behind = w.behind in
          recursion_from_All (λ p. p.doc < w.from) posts
          (All-append (λ p. p.doc < w.from) (now_posts s.shift s.present (stock_of b).posts) s.held
          (all_now s.shift s.present (IsWithin s.index.docs (length s.index.words)) (λ p. p.doc < w.from) (stock_of b).posts
          (λ p e i. let doc = i.doc in omega (arith, doc, behind)) (stock_within b s.index stands is.index).within) w.held_below)

      posts_below : AllByRecursion (λ p. p.doc < n) posts
      posts_below =
          let upto = w.upto in
          all_then (λ p. p.doc < w.from) (λ p. p.doc < n) (λ p lt. omega (arith, lt, upto)) posts posts_from

      all_spots : IsStrictlySortedBy by_spot all
      all_spots =
          let told = (state_told s is b stands).stocked in
          spots_behind w.from (rows_at s.words posts) rows (rows_rise s.words told.words 0 0 posts posts_words told.sorted) w.spots
          (all_map (λ r. r.doc < w.from) (row_of s.words) posts posts_from) (recursion_from_All (λ r. w.from ≤ r.doc) rows w.rows_from)

      all_below : AllByRecursion (λ r. r.doc < n) all
      all_below = recursion_from_All (λ r. r.doc < n) all
          (All-append (λ r. r.doc < n) (rows_at s.words posts) rows (All-from_recursion (λ r. r.doc < n) (rows_at s.words posts) (all_map (λ r. r.doc < n) (row_of s.words) posts posts_below)) w.below)

      pub rows_more : all ++ own ≡ members_in by_row (all ++ doc_rows s.index.weights (n, doc))
      rows_more =
          let from : AllByRecursion (λ r. n ≤ r.doc) own = all_then (λ r. r.doc ≡ n) (λ r. n ≤ r.doc) (λ r e. omega (arith, e)) own own_n in
          members_are by_row by_row_total by_row_exact (all ++ own) (all ++ doc_rows s.index.weights (n, doc))
          (rows_up (all ++ own) (spots_behind n all own all_spots (own_spots s.index.weights n doc) all_below from))
          (λ q. let is_q = eq_by_cmp by_row q in
          list_any-append is_q all own ∙ ap (λ x. list_any is_q all || x) (own_any s.index.weights n doc is_q) ∙ sym (list_any-append is_q all (doc_rows s.index.weights (n, doc))))
