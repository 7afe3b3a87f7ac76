-- An index before the first change.
--
--   range_more       one number more
--   opened_is        a state it is
--   opened_corpus    its corpus is that of the bytes
--   none_waiting     no rows wait
use Rattle.std.proofs.Common.{◌≡◌, ℕ, zero, suc, ◌+◌, ◌<◌, ◌≤◌, max, true, false, List, [], ◌∷◌, ◌++◌, length, get_or, map, replicate, refl, sym, ap, ap₂, ◌∙◌, arith, append-nil}
use Rattle.std.specs.List.{AllByRecursion, enumerate_from, range_with_len}
use Rattle.std.specs.List.Sorted.{IsStrictlySortedBy}
use Rattle.std.specs.Str.{is_utf8}
use Rattle.std.specs.FinMap.{keys}
use Rattle.std.proofs.lemmas.List.{get_or-replicate, length-replicate}
use Rattle.std.proofs.lemmas.List.FromFn.{get_or-range_with_len, length-range_with_len}
use Rattle.std.proofs.lemmas.List.Elements.{All-nil, All-from_recursion, All-weaker, recursion_from_All}
use Rattle.cs_base.specs.content.Orders.{AreSorted, by_spot}
use Rattle.cs_base.specs.declared.content.doc.Post.{Post}
use Rattle.cs_base.specs.declared.content.doc.Row.{Row}
use Rattle.cs_rows.specs.IndexReading.{IsWithin, stock_of}
use Rattle.cs_rows.specs.Sources.{IsIn, is_there}
use Rattle.cs_rows.proofs.CountingLemmas.{stock_within}
use Rattle.cs_rows.proofs.FoundLemmas.{stays}
use Rattle.cs_rows.proofs.ListedLemmas.{range_rises}
use Rattle.cs_rows.proofs.OpenedLemmas.{opened_source}
use Rattle.cs_rows.proofs.StockLemmas.{docs_are, stock_corpus, words_are}
use Rattle.cs_file.specs.Indexes.{IndexView, IsIndex, StandsFor}
use Rattle.cs_merge.specs.Vocabularies.{IsShift, nth_word}
use Rattle.cs_model.specs.Corpus.{Corpus, by_number}
use Rattle.cs_model_changes.specs.Changes.{first_behind, started}
use Rattle.cs_model_index.specs.FileRules.{is_word}
use Rattle.cs_model_index.specs.Numbered.{rows_at}
use Rattle.cs_model_index.specs.Sections.{file_corpus, image_of}
use Rattle.cs_model_index.proofs.ImageLemmas.{titles_listed}
use Rattle.cs_model_index.proofs.TextLimits.{word_length}
use Rattle.cs_live.specs.Lives.{AreWaiting, IsGoodRow, LiveView, changing}
use Rattle.cs_live.specs.States.{IsState, StateView, now_posts, opened_state, renumbered, source_now, stock_now, titles_now}
use Rattle.cs_live.proofs.ByWordLemmas.{none_by}
use Rattle.cs_live.proofs.PresentTitles.{titled_all}

-- ---- numbers from 0 on
pub range_more : (a n : ℕ) → range_with_len a (n + 1) ≡ range_with_len a n ++ (a + n) ∷ []
range_more a zero = ap (λ m. m ∷ []) (let e : a ≡ a + 0 = omega arith in e)
range_more a (suc n) =
    let e : a + 1 + n ≡ a + suc n = omega arith in
    let next : suc n + 1 ≡ suc (n + 1) = omega arith in
    ap (range_with_len a) next ∙ ap (λ l. a ∷ l) (range_more (a + 1) n ∙ ap (λ m. range_with_len (a + 1) n ++ m ∷ []) e)

range_below : (a n m : ℕ) → a + n ≤ m → AllByRecursion (λ x. x < m) (range_with_len a n)
range_below a zero m le = tt
range_below a (suc n) m le = (omega (arith, le), range_below (a + 1) n m (omega (arith, le)))

own_shift : (ws : List (List ℕ)) → IsShift ws ws (range_with_len 0 (length ws))
own_shift ws = record {
  long = length-range_with_len 0 (length ws);
  rises = range_rises 0 (length ws);
  below = All-from_recursion (λ n. n < length ws) (range_with_len 0 (length ws)) (range_below 0 (length ws) (length ws) (omega arith));
  same = λ n lt. ap (nth_word ws) (let at = get_or-range_with_len 0 (length ws) n 0 lt in omega (arith, at));
}

no_posts : AreSorted []
unfolding IsStrictlySortedBy
no_posts = tt

no_rows : IsStrictlySortedBy by_spot []
unfolding IsStrictlySortedBy
no_rows = tt

-- ---- an index
pub opened_is : (i : IndexView) → IsIndex i → IsState (opened_state i)
opened_is i is =
    let long = length-replicate i.docs true in
    let few = is.few_docs in
    record {
      index = is;
      few_docs = omega (arith, long, few);
      few_words = is.few_words;
      ascending = is.ascending;
      texts = (opened_source i is).texts;
      sized = All-weaker (λ w. is_word w ≡ true) (λ w. (1 ≤ length w) × (length w ≤ 138)) (λ w h. word_length w h) i.words is.words;
      shift = own_shift i.words;
      count = omega (arith, long);
      whole = λ w d lt. get_or-replicate i.docs d true false lt;
      held = All-nil (IsIn (source_now (opened_state i)));
      held_sorted = no_posts;
      held_later = All-nil (λ (p : Post). i.docs ≤ p.doc);
      by_word = none_by;
      titles = All-nil (λ t. is_utf8 t ≡ true);
    }

-- no rows wait, in a state of which each row in memory is below the next number
pub none_waiting : (s : StateView) → IsState s → AreWaiting s []
none_waiting s is =
    let count = is.count in
    record {
      spots = no_rows;
      good = All-nil (IsGoodRow s.index.weights);
      there = All-nil (λ (r : Row). get_or s.present r.doc false ≡ true);
      below = All-nil (λ (r : Row). r.doc < length s.present);
      from = length s.present;
      behind = omega (arith, count);
      upto = omega arith;
      held_below = All-weaker (IsIn (source_now s)) (λ p. p.doc < length s.present) (λ p i. i.ranged.doc) s.held is.held;
      rows_from = All-nil (λ (r : Row). length s.present ≤ r.doc);
    }

-- ---- the corpus of the bytes
behind_from : (a : ℕ) (ts : List (List ℕ)) → max a (first_behind (map (λ e. e.0) (enumerate_from a ts))) ≡ a + length ts
behind_from a [] = omega arith
behind_from a (t ∷ ts) = omega (arith, behind_from (a + 1) ts)

first_next : (ts : List (List ℕ)) → first_behind (keys (by_number ts)) ≡ length ts
first_next ts = ap (λ es. first_behind (map (λ e. e.0) es)) (titles_listed ts) ∙ (let b = behind_from 0 ts in omega (arith, b))

unmoved : (n : ℕ) (ps : List Post) → AllByRecursion (λ p. p.word < n) ps → map (renumbered (range_with_len 0 n)) ps ≡ ps
unmoved n [] h = refl
unmoved n (p ∷ ps) h =
    let at : get_or (range_with_len 0 n) p.word 0 ≡ p.word = (let e = get_or-range_with_len 0 n p.word 0 h.0 in omega (arith, e)) in
    ap₂ (λ w l. (let q : Post = record { doc = p.doc; word = w; pos = p.pos; score = p.score } in q) ∷ l) at (unmoved n ps h.1)

pub posts_stay : (i : IndexView) → IsIndex i → (b : List ℕ) → StandsFor b i → now_posts (range_with_len 0 (length i.words)) (replicate i.docs true) (stock_of b).posts ≡ (stock_of b).posts
posts_stay i is b stands =
    let old = (stock_of b).posts in
    let known = (stock_within b i stands is).within in
    let all = stays (is_there (replicate i.docs true)) old (recursion_from_All (λ p. is_there (replicate i.docs true) p ≡ true) old
    (All-weaker (IsWithin i.docs (length i.words)) (λ p. is_there (replicate i.docs true) p ≡ true) (λ p h. get_or-replicate i.docs p.doc true false h.doc) old known)) in
    ap (map (renumbered (range_with_len 0 (length i.words)))) all
    ∙ unmoved (length i.words) old (recursion_from_All (λ p. p.word < length i.words) old (All-weaker (IsWithin i.docs (length i.words)) (λ p. p.word < length i.words) (λ p h. h.word) old known))

pub opened_corpus : (i : IndexView) → IsIndex i → (b : List ℕ) → StandsFor b i → (l : LiveView) → l.state ≡ opened_state i → l.rows ≡ [] → started (file_corpus b) ≡ changing l b
opened_corpus i is b stands l state rows =
    let old = (stock_of b).posts in
    let ts = (image_of b).titles in
    let docs = docs_are b i stands is in
    let corpus = stock_corpus b i stands is in
    let own_titles : (file_corpus b).titles ≡ (stock_now l.state b).titles =
    sym (ap (λ (k : Corpus). k.titles) corpus)
    ∙ sym (ap (titles_now (replicate i.docs true)) (append-nil ts)
    ∙ titled_all (replicate i.docs true) ts (λ d lt. get_or-replicate i.docs d true false (omega (arith, lt, docs))))
    ∙ ap (λ (s : StateView). (stock_now s b).titles) (sym state) in
    let own_rows : (file_corpus b).rows ≡ rows_at l.state.words (stock_now l.state b).posts ++ l.rows =
    sym (ap (λ (k : Corpus). k.rows) corpus) ∙ ap (λ ws. rows_at ws old) (sym (words_are b i stands is))
    ∙ ap (rows_at i.words) (sym (append-nil (now_posts (range_with_len 0 (length i.words)) (replicate i.docs true) old) ∙ posts_stay i is b stands))
    ∙ ap (λ (s : StateView). rows_at s.words (stock_now s b).posts) (sym state)
    ∙ sym (ap (λ rs. rows_at l.state.words (stock_now l.state b).posts ++ rs) rows ∙ append-nil (rows_at l.state.words (stock_now l.state b).posts)) in
    let next : first_behind (keys (file_corpus b).titles) ≡ length l.state.present =
    ap (λ (k : Corpus). first_behind (keys k.titles)) (sym corpus) ∙ first_next ts ∙ sym docs
    ∙ sym (ap (λ (s : StateView). length s.present) state ∙ length-replicate i.docs true) in
    λ j. record { corpus = record { titles = own_titles j; rows = own_rows j }; next = next j }
