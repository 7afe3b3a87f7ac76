-- An index behind changes: its rows and words that are met, and the live corpus.
--
--   begins            before the first change
--   behind_settled    rows that waited brought in
--   behind_added, behind_removed      one change more
--   state_is          the live corpus behind changes
use Rattle.std.proofs.Common.{◌≡◌, ℕ, suc, ◌+◌, ◌<◌, true, List, [], ◌∷◌, ◌++◌, length, get_or, refl, sym, ap, ap₂, subst, ◌∙◌, arith, append-nil, length-append}
use Rattle.std.specs.Prelude.{fold, nat_le, nat_lt, Option}
use Rattle.std.specs.List.{enumerate_from, sum_by}
use Rattle.std.specs.Cmp.Lexicographic.{slice_cmp}
use Rattle.std.specs.Ordering.{nat_cmp}
use Rattle.std.specs.FinMap.{contains_key, len, len-entries}
use Rattle.std.proofs.lemmas.Cmp.{nat_list_cmp_total}
use Rattle.std.proofs.lemmas.List.{length-map}
use Rattle.std.proofs.lemmas.List.Concat.{length-flat_map}
use Rattle.std.proofs.lemmas.List.Elements.{All-weaker, recursion_from_All}
use Rattle.std.proofs.lemmas.List.Sums.{sum_by-cons}
use Rattle.std.proofs.lemmas.Map.Lookups.{exact_bytes}
use Rattle.cs_base.specs.content.Members.{members_in}
use Rattle.cs_base.specs.declared.content.doc.Doc.{Doc}
use Rattle.cs_base.specs.declared.content.doc.Post.{Post}
use Rattle.cs_base.specs.declared.content.limits.TheConstants.{MAX_DOCS, MAX_ROWS, MAX_WORDS}
use Rattle.cs_base.specs.declared.content.scores.Weights.{Weights}
use Rattle.cs_base.proofs.ListsLemmas.{all_stay}
use Rattle.cs_base.proofs.MembersLemmas.{listed_itself}
use Rattle.cs_build.proofs.CollectionFiles.{blocks_accepted, blocks_read}
use Rattle.cs_rows.specs.IndexReading.{IsWithin, stock_of}
use Rattle.cs_rows.specs.Sources.{all_rows, source_of}
use Rattle.cs_rows.specs.Stocked.{IsKnown}
use Rattle.cs_rows.proofs.CountingLemmas.{stock_within}
use Rattle.cs_rows.proofs.OpenedLemmas.{opened_told}
use Rattle.cs_rows.proofs.StockLemmas.{docs_are, stock_corpus, stocked, words_are}
use Rattle.cs_file.specs.Indexes.{IndexView, IsIndex, StandsFor}
use Rattle.cs_file.proofs.StoodLemmas.{stood_block, stood_count}
use Rattle.cs_model.specs.Corpus.{Corpus, by_number, distinct_words}
use Rattle.cs_model.specs.First.{first_reason, unless}
use Rattle.cs_model_changes.specs.Changes.{Change, Changing, added, applied, deleted, started}
use Rattle.cs_model_index.specs.Images.{Image, image_posts}
use Rattle.cs_model_index.specs.Numbered.{row_of, rows_at}
use Rattle.cs_model_index.specs.Sections.{file_corpus, image_of}
use Rattle.cs_model_index.proofs.ImageLemmas.{titles_listed}
use Rattle.cs_model_index.proofs.ReadImages.{images_read}
use Rattle.cs_model_index.proofs.ReadRows.{rows_rise}
use Rattle.cs_model_live.specs.Courses.{IsChanged, additions_in}
use Rattle.cs_model_live.specs.LiveStates.{Full, LiveState, full_docs, full_rows, full_words, met_rows}
use Rattle.cs_live.specs.Lives.{HasAdded, IsBehind, IsRemoved, IsSettled, IsStateOf, LiveView, changing, rows_met, next_number, own_rows}
use Rattle.cs_live.specs.Settling.{words_met}
use Rattle.cs_live.specs.States.{IsState, StateView, opened_state}
use Rattle.cs_live.proofs.BeginningLemmas.{opened_corpus}
use Rattle.cs_live.proofs.MetRows.{AreBelow, distinct_more, met_more, met_none}
use Rattle.cs_live.proofs.AddedRows.{all_map, numbered_rows}
use Rattle.cs_live.proofs.SettledLemmas.{met_twice}
use Rattle.cs_live.proofs.StateLemmas.{titles_long}
use Rattle.cs_live.proofs.PresentTitles.{titled_there}

-- ---- lists
long_numbered : {X : Type 0} (a : ℕ) (xs : List X) → length (enumerate_from a xs) ≡ length xs
long_numbered a [] = refl
long_numbered a (x ∷ xs) = ap suc (long_numbered (a + 1) xs)

many_titles : (ts : List (List ℕ)) → len (by_number ts) ≡ length ts
many_titles ts = len-entries (by_number ts) ∙ ap length (titles_listed ts) ∙ long_numbered 0 ts

same_sums : {X Y : Type 0} (f : X → ℕ) (g : Y → ℕ) (xs : List X) (ys : List Y) (x : X) → length xs ≡ length ys
    → ((k : ℕ) (y : Y) → k < length ys → f (get_or xs k x) ≡ g (get_or ys k y)) → sum_by f xs ≡ sum_by g ys
same_sums f g [] [] x e h = refl
same_sums f g [] (y ∷ ys) x e h = absurd (omega (arith, e))
same_sums f g (z ∷ xs) [] x e h = absurd (omega (arith, e))
same_sums f g (z ∷ xs) (y ∷ ys) x e h =
    sum_by-cons f z xs ∙ ap₂ (λ a b. a + b) (h 0 y (omega arith)) (same_sums f g xs ys x (omega (arith, e)) (λ k d lt. h (suc k) d (omega (arith, lt))))
    ∙ sym (sum_by-cons g y ys)

-- ---- an index file
module _ (i : IndexView) (is : IsIndex i) (b : List ℕ) (stands : StandsFor b i) where
  abbrev k : Corpus
  k = file_corpus b

  abbrev posts : List Post
  posts = (stock_of b).posts

  abbrev ws : List (List ℕ)
  ws = (stock_of b).words

  many_docs : len (file_corpus b).titles ≡ i.docs
  many_docs = many_titles (image_of b).titles ∙ sym (docs_are b i stands is)

  same_rows : rows_at ws posts ≡ (file_corpus b).rows
  same_rows = ap (λ (c : Corpus). c.rows) (stock_corpus b i stands is)

  file_below : AreBelow (len (file_corpus b).titles) (file_corpus b).rows
  file_below =
      let st = stocked b i stands is in
      let many = many_docs in
      let words_in = recursion_from_All (λ p. p.word < length ws) posts (All-weaker (IsKnown (stock_of b)) (λ p. p.word < length ws) (λ p h. h.word) posts st.known) in
      let docs_in = recursion_from_All (λ p. p.doc < len k.titles) posts (All-weaker (IsWithin i.docs (length i.words)) (λ p. p.doc < len k.titles)
      (λ p h. let lt = h.doc in omega (arith, lt, many)) posts (stock_within b i stands is).within) in
      subst (AreBelow (len k.titles)) same_rows (record {
        up = rows_rise ws st.words 0 0 posts words_in st.sorted;
        below = all_map (λ r. r.doc < len k.titles) (row_of ws) posts docs_in;
      })

  many_rows : length (file_corpus b).rows ≡ sum_by (λ h. h.rows) i.heads
  many_rows =
      let blocks = (image_of b).blocks in
      sym (ap length same_rows) ∙ length-map posts (row_of ws) ∙ ap length (sym (all_stay posts)) ∙ sym ((opened_told i is b stands).long (λ p. true))
      ∙ ap length (all_stay (all_rows (source_of i) b) ∙ append-nil (image_posts (image_of b))) ∙ length-flat_map (λ (block : List Post). block) blocks
      ∙ same_sums length (λ h. h.rows) blocks i.heads [] (stood_count b i stands) (λ n d lt. (stood_block b i stands is n d lt).count)

  words_told : i.words ≡ distinct_words (file_corpus b).rows
  words_told =
      let image = images_read blocks_accepted blocks_read b stands.bytes stands.accepted in
      words_are b i stands is ∙ ap (λ (x : Image). x.words) image.made ∙ image.parted.joined

  own_words : words_met i.words [] ≡ i.words
  own_words =
      ap (members_in (slice_cmp nat_cmp)) (append-nil i.words)
      ∙ sym (listed_itself (slice_cmp nat_cmp) nat_list_cmp_total exact_bytes i.words is.ascending)

  pub begins : (l : LiveView) → l.state ≡ opened_state i → l.rows ≡ [] → l.met ≡ sum_by (λ h. h.rows) i.heads → l.changes ≡ 0 → IsBehind b [] l
  begins l state rows met changes =
      let none = met_none l.state.index.weights k file_below in
      record {
        corpus = opened_corpus i is b stands l state rows;
        changes = changes;
        added = ap (λ (s : StateView). length s.added) state;
        rows = met ∙ sym many_rows ∙ ap length (sym none);
        words = ap₂ (λ (s : StateView) rs. words_met s.words rs) state rows ∙ own_words ∙ words_told ∙ ap distinct_words (sym none);
      }

-- ---- changes
fold_one : (w : Weights) (s : Changing) (cs : List Change) (c : Change) → fold (applied w) s (cs ++ c ∷ []) ≡ applied w (fold (applied w) s cs) c
fold_one w s [] c = refl
fold_one w s (x ∷ cs) c = fold_one w (applied w s x) cs c

additions_more : (cs : List Change) (doc : Doc) → additions_in (cs ++ added doc ∷ []) ≡ additions_in cs ++ doc ∷ []
additions_more [] doc = refl
additions_more (added x ∷ cs) doc = ap (λ l. x ∷ l) (additions_more cs doc)
additions_more (deleted x ∷ cs) doc = additions_more cs doc

additions_stay : (cs : List Change) (d : ℕ) → additions_in (cs ++ deleted d ∷ []) ≡ additions_in cs
additions_stay [] d = refl
additions_stay (added x ∷ cs) d = ap (λ l. x ∷ l) (additions_stay cs d)
additions_stay (deleted x ∷ cs) d = additions_stay cs d

-- what there is no room for, by the numbers of documents, rows and words
abbrev room : ℕ → ℕ → ℕ → Option Full
room docs rows vs = first_reason (unless (nat_lt docs MAX_DOCS) full_docs ∷ unless (nat_le rows MAX_ROWS) full_rows ∷ unless (nat_le vs MAX_WORDS) full_words ∷ [])

module _ (l : LiveView) (is : IsState l.state) (b : List ℕ) (stands : StandsFor b l.state.index) (cs : List Change) (h : IsBehind b cs l) where
  abbrev w : Weights
  w = l.state.index.weights

  abbrev adds : List Doc
  adds = additions_in cs

  next : len (file_corpus b).titles + length (additions_in cs) ≡ next_number l
  next =
      let docs = many_docs l.state.index is.index b stands in
      let count = is.count in
      let many = h.added in
      omega (arith, docs, count, many)

  own_met : (doc : Doc) → rows_met l b (additions_in cs ++ doc ∷ []) ≡ rows_met l b (additions_in cs) ++ own_rows l doc
  own_met doc =
      met_more w (file_corpus b) (file_below l.state.index is.index b stands) adds doc
      ∙ ap (λ n. rows_met l b adds ++ numbered_rows w n doc) next

  rows_counted : (doc : Doc) → length (rows_met l b (additions_in cs ++ doc ∷ [])) ≡ l.met + length (own_rows l doc)
  rows_counted doc =
      let all = ap length (own_met doc) in
      let both = length-append (rows_met l b adds) (own_rows l doc) in
      let rows = h.rows in
      omega (arith, all, both, rows)

  words_counted : (doc : Doc) → distinct_words (rows_met l b (additions_in cs ++ doc ∷ [])) ≡ words_met l.state.words (l.rows ++ own_rows l doc)
  words_counted doc =
      ap distinct_words (own_met doc) ∙ distinct_more (rows_met l b adds) (own_rows l doc)
      ∙ ap (λ vs. words_met vs (own_rows l doc)) (sym h.words) ∙ met_twice l.state.words l.rows (own_rows l doc)

  pub behind_added : (doc : Doc) (m : LiveView) → HasAdded l doc m → IsBehind b (cs ++ added doc ∷ []) m
  behind_added doc m a =
      let more = length-append cs (added doc ∷ []) in
      let changes = a.changes in
      let before = h.changes in
      let long = a.added in
      let many = h.added in
      let docs = ap length (additions_more cs doc) in
      let both = length-append adds (doc ∷ []) in
      record {
        corpus = ap (λ (i : IndexView). fold (applied i.weights) (started (file_corpus b)) (cs ++ added doc ∷ [])) a.index
            ∙ fold_one w (started (file_corpus b)) cs (added doc) ∙ ap (λ s. applied w s (added doc)) h.corpus ∙ sym (a.corpus b stands);
        changes = omega (arith, more, changes, before);
        added = omega (arith, long, many, docs, both);
        rows = a.rows ∙ sym (rows_counted doc) ∙ ap₂ (λ (i : IndexView) ds. length (met_rows i.weights (file_corpus b) ds)) (sym a.index) (sym (additions_more cs doc));
        words = a.words ∙ sym (words_counted doc) ∙ ap₂ (λ (i : IndexView) ds. distinct_words (met_rows i.weights (file_corpus b) ds)) (sym a.index) (sym (additions_more cs doc));
      }

  pub behind_removed : (d : ℕ) (m : LiveView) → IsRemoved l d m → IsBehind b (cs ++ deleted d ∷ []) m
  behind_removed d m a =
      let more = length-append cs (deleted d ∷ []) in
      let changes = a.changes in
      let before = h.changes in
      record {
        corpus = ap (λ (i : IndexView). fold (applied i.weights) (started (file_corpus b)) (cs ++ deleted d ∷ [])) a.index
            ∙ fold_one w (started (file_corpus b)) cs (deleted d) ∙ ap (λ s. applied w s (deleted d)) h.corpus ∙ sym (a.corpus b stands);
        changes = omega (arith, more, changes, before);
        added = ap length a.added ∙ h.added ∙ ap length (sym (additions_stay cs d));
        rows = a.rows ∙ h.rows ∙ ap₂ (λ (i : IndexView) ds. length (met_rows i.weights (file_corpus b) ds)) (sym a.index) (sym (additions_stay cs d));
        words = a.words ∙ h.words ∙ ap₂ (λ (i : IndexView) ds. distinct_words (met_rows i.weights (file_corpus b) ds)) (sym a.index) (sym (additions_stay cs d));
      }

  pub behind_settled : (s : StateView) → IsSettled l.state l.rows s → (m : LiveView) → m.state ≡ s → m.rows ≡ [] → m.met ≡ l.met → m.changes ≡ l.changes
      → changing l b ≡ changing m b → IsBehind b cs m
  behind_settled s settled m state none met changes same =
      let index : l.state.index ≡ m.state.index = sym (ap (λ (x : StateView). x.index) state ∙ settled.index) in
      record {
        corpus = sym (ap (λ (i : IndexView). fold (applied i.weights) (started (file_corpus b)) cs) index) ∙ h.corpus ∙ same;
        changes = changes ∙ h.changes;
        added = ap (λ (x : StateView). length x.added) state ∙ ap length settled.added ∙ h.added;
        rows = met ∙ h.rows ∙ ap (λ (i : IndexView). length (met_rows i.weights (file_corpus b) adds)) index;
        words = ap₂ (λ (x : StateView) rs. words_met x.words rs) state none ∙ ap (λ vs. words_met vs []) settled.words ∙ met_twice l.state.words l.rows []
            ∙ ap (words_met l.state.words) (append-nil l.rows) ∙ h.words ∙ ap (λ (i : IndexView). distinct_words (met_rows i.weights (file_corpus b) adds)) index;
      }

  pub state_is : (s : LiveState) → IsChanged l.state.index.weights (file_corpus b) cs s → IsStateOf b l s
  state_is s c =
      let docs : len (file_corpus b).titles + length s.additions ≡ next_number l = ap (λ ds. len (file_corpus b).titles + length ds) c.additions ∙ next in
      record {
        corpus = c.corpus ∙ ap (λ (x : Changing). x.corpus) h.corpus;
        changes = c.changes ∙ sym h.changes;
        next = docs;
        documents = λ d.
            ap (λ (k : Corpus). contains_key k.titles d) (c.corpus ∙ ap (λ (x : Changing). x.corpus) h.corpus)
            ∙ titled_there l.state.present ((image_of b).titles ++ l.state.added) d (titles_long l.state is b stands);
        full = λ doc.
            let rows = ap (λ ds. length (rows_met l b (ds ++ doc ∷ []))) c.additions ∙ rows_counted doc in
            let vs = ap (λ ds. length (distinct_words (rows_met l b (ds ++ doc ∷ [])))) c.additions ∙ ap length (words_counted doc) in
            ap₂ (λ n m. room n m (length (distinct_words (rows_met l b (s.additions ++ doc ∷ []))))) docs rows
            ∙ ap (room (next_number l) (l.met + length (own_rows l doc))) vs;
      }
