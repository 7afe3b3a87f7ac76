-- An index under changes: what its calls leave.
--
--   kept_begins       before the first change
--   settled_*         rows that waited brought in: what is kept and held stays right
--   still_*           rows that wait on, or are brought in
--   added_*           a document that is added
--   removed_*         a document that is deleted
use Rattle.std.proofs.Common.{◌≡◌, ℕ, zero, suc, ◌+◌, ◌<◌, ◌≤◌, Bool, true, false, true≢false, cond, not, List, [], ◌∷◌, ◌++◌, length, get_or, set, replicate}
use Rattle.std.proofs.Common.{refl, sym, ap, ap₂, subst, ◌∙◌, arith, append-nil, append_assoc, length-append, inl, inr}
use Rattle.std.specs.Prelude.{All, count_by, filter}
use Rattle.std.specs.List.{IsDistinct, sum_by}
use Rattle.std.specs.FinMap.{insert, remove}
use Rattle.std.specs.Ordering.{nat_cmp}
use Rattle.std.specs.Cmp.Lexicographic.{slice_cmp}
use Rattle.std.specs.Str.{is_utf8}
use Rattle.std.proofs.lemmas.Cmp.{nat_list_cmp_total}
use Rattle.std.proofs.lemmas.List.{length-set}
use Rattle.std.proofs.lemmas.List.Elements.{All-nil, filter-append}
use Rattle.std.proofs.lemmas.List.Sums.{sum_by-set, sum_by_push}
use Rattle.std.proofs.lemmas.Map.Lookups.{exact_bytes}
use Rattle.cs_base.specs.content.Members.{members_in}
use Rattle.cs_base.specs.content.Orders.{by_row}
use Rattle.cs_base.specs.declared.content.doc.Doc.{Doc}
use Rattle.cs_base.specs.declared.content.doc.Row.{Row}
use Rattle.cs_base.specs.declared.content.limits.TheConstants.{MAX_DOCS, MAX_ROWS, MAX_WORDS}
use Rattle.cs_cache.specs.AnswerList.{AnswerList, answer_list}
use Rattle.cs_engine.specs.HeldRanges.{AreHeldOver, FitsRange}
use Rattle.cs_engine.specs.Keeping.{AreGoodFor, HoldsGood, IsKeptEntry, KeepsFitting, engine_with}
use Rattle.cs_rows.specs.Sources.{seen}
use Rattle.cs_rows.specs.Stocked.{corpus_in}
use Rattle.cs_engine.specs.declared.held.HeldRange.{HeldRange}
use Rattle.cs_file.specs.Indexes.{IndexView, IsIndex, StandsFor}
use Rattle.cs_model.specs.Answers.{in_doc}
use Rattle.cs_model.specs.Corpus.{Corpus, doc_rows}
use Rattle.cs_model_kept.specs.KeptList.{GoodFor, IsOwn}
use Rattle.cs_model_changes.specs.Changes.{Change, Changing, added, applied, deleted, now}
use Rattle.cs_model_index.specs.Numbered.{rows_at}
use Rattle.cs_model_index.specs.Sections.{file_corpus, image_of}
use Rattle.cs_model_index.proofs.Listings.{listed_few}
use Rattle.cs_live.specs.Lives.{AreGoodNow, IsOnlyDoc, HasAdded, IsBehind, IsLiveKept, IsLiveState, IsRemoved, IsSettled, KeepsCorpus, LiveView, changing, own_rows}
use Rattle.cs_live.specs.Settling.{words_met}
use Rattle.cs_live.specs.States.{IsState, StateView, opened_state, source_now, stock_now, titles_now, with_title, without_doc}
use Rattle.cs_live.proofs.AddingLemmas.{rows_more, titled_is, titled_posts, waiting_more}
use Rattle.cs_live.proofs.RemovedLemmas.{later_stay, later_waiting, without_is, without_rows, without_titles}
use Rattle.cs_live.proofs.StateLemmas.{titles_long}
use Rattle.cs_live.proofs.PresentTitles.{titled_more}
use Rattle.cs_live.proofs.BeginningLemmas.{none_waiting, opened_is}

-- ---- words
pub few_met : (words : List (List ℕ)) → length (words_met words []) ≤ length words
few_met words =
    let few = listed_few (slice_cmp nat_cmp) nat_list_cmp_total exact_bytes (words ++ []) in
    let same = ap length (append-nil words) in
    omega (arith, few, same)

-- ---- nothing kept and held
no_entries : (k : Corpus) → GoodFor k []
unfolding IsDistinct
no_entries k = record { different = tt; own = All-nil (IsOwn k) }

none_good : (k : Corpus) (s : StateView) (b : List ℕ) (a : AnswerList) (held : List HeldRange) → a.entries ≡ [] → held ≡ []
    → AreGoodFor (corpus_in (stock_now s b)) (stock_now s b) (engine_with (seen (source_now s)) a held)
none_good k s b a held none_a none_h = record {
  kept = subst (λ es. HoldsGood (corpus_in (stock_now s b)) (seen (source_now s)) es) (sym none_a) (no_entries (corpus_in (stock_now s b)));
  held = subst (AreHeldOver (stock_now s b)) (sym none_h) (All-nil _);
}

pub empty_good : (l : LiveView) (n : ℕ) → l.answers ≡ answer_list [] n → l.held ≡ [] → (b : List ℕ) → AreGoodNow b l
empty_good l n none_a none_h b = none_good (corpus_in (stock_now l.state b)) l.state b l.answers l.held (ap (λ (a : AnswerList). a.entries) none_a) none_h

pub empty_kept : (s : StateView) (a : AnswerList) (n : ℕ) → a ≡ answer_list [] n → KeepsFitting (seen (source_now s)) a.entries
empty_kept s a n none = subst (KeepsFitting (seen (source_now s))) (sym (ap (λ (x : AnswerList). x.entries) none)) (All-nil (IsKeptEntry (seen (source_now s))))

pub empty_held : (s : StateView) (held : List HeldRange) → held ≡ [] → All (FitsRange (seen (source_now s))) held
empty_held s held none = subst (All (FitsRange (seen (source_now s)))) (sym none) (All-nil (FitsRange (seen (source_now s))))

-- ---- changes are counted
none_gone : (n : ℕ) → 0 + count_by not (replicate n true) ≡ 0
none_gone zero = refl
none_gone (suc n) = none_gone n

there_more : (ps : List Bool) → count_by not (ps ++ true ∷ []) ≡ count_by not ps
there_more ps = let more = sum_by_push (λ x. cond (not x) 1 0) ps true in omega (arith, more)

there_below : (ps : List Bool) (d : ℕ) → get_or ps d false ≡ true → d < length ps
there_below [] d here = absurd (true≢false (sym here))
there_below (p ∷ ps) zero here = omega arith
there_below (p ∷ ps) (suc d) here = let lt = there_below ps d here in omega (arith, lt)

gone_more : (ps : List Bool) (d : ℕ) → get_or ps d false ≡ true → count_by not (set ps d false) ≡ count_by not ps + 1
gone_more ps d here =
    let one = sum_by-set (λ x. cond (not x) 1 0) ps d false false (there_below ps d here) in
    let weight : Bool → ℕ = λ x. cond (not x) 1 0 in
    let none : weight (get_or ps d false) ≡ 0 = ap weight here in
    omega (arith, one, none)

-- ---- the beginning
pub kept_begins : (i : IndexView) → IsIndex i → (l : LiveView) (n : ℕ) → l.state ≡ opened_state i → l.rows ≡ [] → l.met ≡ sum_by (λ h. h.rows) i.heads → l.changes ≡ 0
    → l.answers ≡ answer_list [] n → l.held ≡ [] → IsLiveKept l
kept_begins i is l n state rows met changes none_a none_h =
    let of_state : IsState l.state = subst IsState (sym state) (opened_is i is) in
    let few = is.few_rows in
    let words = few_met l.state.words in
    let few_words = of_state.few_words in
    record {
      live = subst (λ rs. IsLiveState l.state rs l.met) (sym rows) (record {
        state = of_state;
        waiting = none_waiting l.state of_state;
        few = omega arith;
        few_rows = omega (arith, few, met);
        few_words = omega (arith, words, few_words);
      });
      counted = changes ∙ sym (ap₂ (λ a ps. a + count_by not ps) (ap (λ (s : StateView). length s.added) state) (ap (λ (s : StateView). s.present) state) ∙ none_gone i.docs);
      fresh = inl rows;
      answers = empty_kept l.state l.answers n none_a;
      held = empty_held l.state l.held none_h;
    }

-- ---- rows that waited
module _ (l : LiveView) (k : IsLiveKept l) (new : StateView) (h : IsSettled l.state l.rows new) where
  pub settled_live : IsLiveState new [] l.met
  settled_live =
      let live = k.live in
      let few_rows = live.few_rows in
      let few_words = live.few_words in
      let words = few_met new.words in
      let same = ap length h.words in
      record {
        state = h.is;
        waiting = none_waiting new h.is;
        few = omega arith;
        few_rows = few_rows;
        few_words = omega (arith, words, same, few_words);
      }

  pub settled_answers : KeepsFitting (seen (source_now new)) l.answers.entries
  settled_answers =
      elim k.fresh [
        | inl none ↦ subst (λ s. KeepsFitting (seen (source_now s)) l.answers.entries) (sym (h.same none)) k.answers
        | inr e ↦ subst (KeepsFitting (seen (source_now new))) (sym e.0) (All-nil (IsKeptEntry (seen (source_now new))))
      ]

  pub settled_held : All (FitsRange (seen (source_now new))) l.held
  settled_held =
      elim k.fresh [
        | inl none ↦ subst (λ s. All (FitsRange (seen (source_now s))) l.held) (sym (h.same none)) k.held
        | inr e ↦ empty_held new l.held e.1
      ]

  pub settled_good : (b : List ℕ) → AreGoodNow b l → AreGoodFor (corpus_in (stock_now new b)) (stock_now new b) (engine_with (seen (source_now new)) l.answers l.held)
  settled_good b good =
      elim k.fresh [
        | inl none ↦ subst (λ s. AreGoodFor (corpus_in (stock_now s b)) (stock_now s b) (engine_with (seen (source_now s)) l.answers l.held)) (sym (h.same none)) good
        | inr e ↦ none_good (corpus_in (stock_now new b)) new b l.answers l.held e.0 e.1
      ]

  module _ (b : List ℕ) (stands : StandsFor b l.state.index) where
    titles_stay : (stock_now new b).titles ≡ (stock_now l.state b).titles
    titles_stay = ap₂ (λ ps ts. titles_now ps ((image_of b).titles ++ ts)) h.present h.added

    -- of a state with all rows the stock's corpus is the corpus now
    pub settled_corpus : (changing l b).corpus ≡ corpus_in (stock_now new b)
    settled_corpus =
        let rows = h.rows b stands in
        let same : corpus_in (stock_now new b) ≡ (changing l b).corpus = λ j. record { titles = titles_stay j; rows = rows j } in
        sym same

    pub settled_same : (m : LiveView) → m.state ≡ new → m.rows ≡ [] → changing l b ≡ changing m b
    settled_same m state none =
        let titles : (stock_now l.state b).titles ≡ (stock_now m.state b).titles =
        sym titles_stay ∙ ap (λ (s : StateView). (stock_now s b).titles) (sym state) in
        let rows : rows_at l.state.words (stock_now l.state b).posts ++ l.rows ≡ rows_at m.state.words (stock_now m.state b).posts ++ m.rows =
        sym (h.rows b stands) ∙ ap (λ (s : StateView). rows_at s.words (stock_now s b).posts) (sym state)
        ∙ sym (ap (λ rs. rows_at m.state.words (stock_now m.state b).posts ++ rs) none ∙ append-nil (rows_at m.state.words (stock_now m.state b).posts)) in
        let next : length l.state.present ≡ length m.state.present = ap length (sym h.present) ∙ ap (λ (s : StateView). length s.present) (sym state) in
        λ j. record { corpus = record { titles = titles j; rows = rows j }; next = next j }

pub behind_now : (b : List ℕ) (cs : List Change) (l : LiveView) → IsBehind b cs l → (changing l b).corpus ≡ now l.state.index.weights (file_corpus b) cs
behind_now b cs l h = ap (λ (c : Changing). c.corpus) (sym h.corpus)

-- ---- rows that wait on, or are brought in
module _ (s : StateView) (waited : List Row) (new : StateView) (left : List Row) (h : KeepsCorpus s waited new left) where
  still_live : (met : ℕ) → IsLiveState s waited met → IsLiveState new left met
  still_live met live =
      let fewer = h.few in
      let few = live.few in
      let words = ap length h.words in
      let few_words = live.few_words in
      record {
        state = h.is;
        waiting = h.waiting;
        few = omega (arith, fewer, few);
        few_rows = live.few_rows;
        few_words = omega (arith, words, few_words);
      }

  still_titled : (b : List ℕ) → (stock_now new b).titles ≡ (stock_now s b).titles
  still_titled b = ap₂ (λ ps ts. titles_now ps ((image_of b).titles ++ ts)) h.present h.added

-- ---- one document more
module _ (l : LiveView) (k : IsLiveKept l) (doc : Doc) (a : IsOnlyDoc l.state.index.weights doc) (t : List ℕ) (s : StateView) (waited : List Row) (met : ℕ)
    (title : t ≡ doc.title) (state : s ≡ with_title l.state t) (rows : waited ≡ l.rows ++ own_rows l doc) (many : met ≡ l.met + length (own_rows l doc)) where
  abbrev own : List Row
  own = own_rows l doc

  pub added_live : length l.state.present < MAX_DOCS → is_utf8 t ≡ true → l.met + length (own_rows l doc) ≤ MAX_ROWS
      → length (words_met l.state.words (l.rows ++ own_rows l doc)) ≤ MAX_WORDS → IsLiveState s waited met
  added_live few text few_rows few_words =
      let live = k.live in
      let of_state : IsState (with_title l.state t) = titled_is l.state live.state t few text in
      let both = length-append l.rows own in
      let old = live.few in
      subst (λ x. IsLiveState x waited met) (sym state) (subst (λ rs. IsLiveState (with_title l.state t) rs met) (sym rows) (record {
        state = of_state;
        waiting = waiting_more l.state live.state t l.rows live.waiting doc a;
        few = omega (arith, both, old, many);
        few_rows = omega (arith, few_rows, many);
        few_words = few_words;
      }))

  module _ (m : LiveView) (n : ℕ) (h : KeepsCorpus s waited m.state m.rows) (same : m.met ≡ met) (changes : m.changes ≡ l.changes + 1)
      (none_a : m.answers ≡ answer_list [] n) (none_h : m.held ≡ []) where
    pub added_kept : IsLiveState s waited met → IsLiveKept m
    added_kept live = record {
      live = subst (IsLiveState m.state m.rows) (sym same) (still_live s waited m.state m.rows h met live);
      counted = (let counted = k.counted in
          let all = ap₂ (λ ts ps. length ts + count_by not ps) (h.added ∙ ap (λ (x : StateView). x.added) state) (h.present ∙ ap (λ (x : StateView). x.present) state) in
          let more = length-append l.state.added (t ∷ []) in
          let there = there_more l.state.present in
          omega (arith, changes, counted, all, more, there));
      fresh = inr (ap (λ (x : AnswerList). x.entries) none_a, none_h);
      answers = empty_kept m.state m.answers n none_a;
      held = empty_held m.state m.held none_h;
    }

    added_corpus : (b : List ℕ) → StandsFor b l.state.index → changing m b ≡ applied l.state.index.weights (changing l b) (added doc)
    added_corpus b stands =
        let live = k.live in
        let o = l.state in
        let ts = (image_of b).titles in
        let posts = (stock_now o b).posts in
        let here : StandsFor b s.index = subst (StandsFor b) (sym (ap (λ (x : StateView). x.index) state)) stands in
        let titles : (stock_now m.state b).titles ≡ insert (stock_now o b).titles (length o.present) doc.title =
        still_titled s waited m.state m.rows h b
        ∙ ap (λ (x : StateView). (stock_now x b).titles) state ∙ ap (titles_now (o.present ++ true ∷ [])) (sym (append_assoc ts o.added (t ∷ [])))
        ∙ titled_more o.present (ts ++ o.added) t (titles_long o live.state b stands) ∙ ap (insert (stock_now o b).titles (length o.present)) title in
        let all : rows_at m.state.words (stock_now m.state b).posts ++ m.rows
        ≡ members_in by_row ((rows_at o.words posts ++ l.rows) ++ doc_rows o.index.weights (length o.present, doc)) =
        h.rows b here
        ∙ ap₂ (λ (x : StateView) rs. rows_at x.words (stock_now x b).posts ++ rs) state rows
        ∙ ap (λ ps. rows_at o.words ps ++ (l.rows ++ own)) (titled_posts o live.state t b stands)
        ∙ sym (append_assoc (rows_at o.words posts) l.rows own)
        ∙ rows_more o live.state t l.rows live.waiting doc a b stands in
        let next : length m.state.present ≡ length o.present + 1 =
        ap length h.present ∙ ap (λ (x : StateView). length x.present) state ∙ length-append o.present (true ∷ []) in
        λ j. record { corpus = record { titles = titles j; rows = all j }; next = next j }

    pub is_added : n ≡ l.answers.capacity → HasAdded l doc m
    is_added capacity = record {
      index = h.index ∙ ap (λ (x : StateView). x.index) state;
      corpus = added_corpus;
      changes = changes;
      added = ap length h.added ∙ ap (λ (x : StateView). length x.added) state ∙ length-append l.state.added (t ∷ []);
      rows = same ∙ many;
      words = h.words ∙ ap₂ words_met (ap (λ (x : StateView). x.words) state) rows;
      answers = none_a ∙ ap (answer_list []) capacity;
      held = none_h;
    }

-- ---- one document less
module _ (l : LiveView) (k : IsLiveKept l) (d : ℕ) (s : StateView) (left : List Row) (h : KeepsCorpus l.state l.rows s left) (later : All (λ r. d < r.doc) left)
    (m : LiveView) (n : ℕ) (state : m.state ≡ without_doc s d) (rows : m.rows ≡ left) (met : m.met ≡ l.met) (changes : m.changes ≡ l.changes + 1)
    (none_a : m.answers ≡ answer_list [] n) (none_h : m.held ≡ []) where
  pub removed_kept : get_or l.state.present d false ≡ true → IsLiveKept m
  removed_kept here =
      let live = still_live l.state l.rows s left h l.met k.live in
      let there : get_or s.present d false ≡ true = ap (λ ps. get_or ps d false) h.present ∙ here in
      record {
        live = subst (IsLiveState m.state m.rows) (sym met) (subst (λ x. IsLiveState x m.rows l.met) (sym state) (subst (λ rs. IsLiveState (without_doc s d) rs l.met) (sym rows) (record {
          state = without_is s h.is d;
          waiting = later_waiting s d left live.waiting later;
          few = live.few;
          few_rows = live.few_rows;
          few_words = live.few_words;
        })));
        counted = (let counted = k.counted in
            let all = ap₂ (λ ts ps. length ts + count_by not ps) (ap (λ (x : StateView). x.added) state ∙ h.added) (ap (λ (x : StateView). x.present) state) in
            let more = gone_more s.present d there in
            let same = ap (count_by not) h.present in
            omega (arith, changes, counted, all, more, same));
        fresh = inr (ap (λ (x : AnswerList). x.entries) none_a, none_h);
        answers = empty_kept m.state m.answers n none_a;
        held = empty_held m.state m.held none_h;
      }

  removed_corpus : (b : List ℕ) → StandsFor b l.state.index → changing m b ≡ applied l.state.index.weights (changing l b) (deleted d)
  removed_corpus b stands =
      let test = λ (r : Row). not (in_doc d r) in
      let posts = rows_at s.words (stock_now s b).posts in
      let titles : (stock_now m.state b).titles ≡ remove (stock_now l.state b).titles d =
      ap (λ (x : StateView). (stock_now x b).titles) state ∙ without_titles s d b ∙ ap (λ ts. remove ts d) (still_titled l.state l.rows s left h b) in
      let all : rows_at m.state.words (stock_now m.state b).posts ++ m.rows ≡ filter (λ r. not (in_doc d r)) (rows_at l.state.words (stock_now l.state b).posts ++ l.rows) =
      ap₂ (λ (x : StateView) rs. rows_at x.words (stock_now x b).posts ++ rs) state rows
      ∙ ap₂ (λ xs ys. xs ++ ys) (without_rows s d b) (sym (later_stay d left later))
      ∙ sym (filter-append test posts left) ∙ ap (filter test) (h.rows b stands) in
      let next : length m.state.present ≡ length l.state.present =
      ap (λ (x : StateView). length x.present) state ∙ length-set s.present d false ∙ ap length h.present in
      λ j. record { corpus = record { titles = titles j; rows = all j }; next = next j }

  pub is_removed : n ≡ l.answers.capacity → IsRemoved l d m
  is_removed capacity = record {
    index = ap (λ (x : StateView). x.index) state ∙ h.index;
    corpus = removed_corpus;
    changes = changes;
    added = ap (λ (x : StateView). x.added) state ∙ h.added;
    rows = met;
    words = ap₂ (λ (x : StateView) rs. words_met x.words rs) state rows ∙ h.words;
    answers = none_a ∙ ap (answer_list []) capacity;
    held = none_h;
  }
