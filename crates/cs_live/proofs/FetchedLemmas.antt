-- What is read of a block or a title, as it is now.
--
--   fetched_by, scored_by    what is fetched by parts that are a state's own
--   fetched_ranged, fetched_sought, fetched_stood    the posts of a block that are sought
--   scored_words_even, scored_scores_even, scored_docs, scored_words, scored_scores, scored_stood    its documents, words and scores
--   title_none, title_new, title_old, title_stood     a title
use Rattle.std.proofs.Common.{◌≡◌, ℕ, ◌+◌, ◌-◌, ◌<◌, ◌≤◌, ◌&&◌, Bool, true, false, true≢false, List, [], ◌∷◌, ◌++◌, length, get_or, take, map, Option, Some}
use Rattle.std.proofs.Common.{refl, sym, ap, ap₂, subst, ◌∙◌, arith, get_or-take, inl, inr}
use Rattle.std.specs.Prelude.{All, filter, IfOk, Result, Ok, Err}
use Rattle.std.specs.List.{AllByRecursion}
use Rattle.std.specs.Str.{is_utf8}
use Rattle.std.proofs.lemmas.Bool.{cases_lt}
use Rattle.std.proofs.lemmas.List.{get_or_append_left, get_or-append_right, length-map}
use Rattle.std.proofs.lemmas.List.Elements.{All-from_recursion, All-map, All-weaker, recursion_from_All}
use Rattle.std.proofs.lemmas.Str.{IsUtf8-nil, is_utf8-from_IsUtf8}
use Rattle.cs_base.specs.declared.content.doc.Post.{Post}
use Rattle.cs_base.specs.declared.content.scores.TheConstants.{MAX_ROW_SCORE}
use Rattle.cs_file.specs.CallAnswers.{AreScoredOf, IsRanged}
use Rattle.cs_file.specs.Indexes.{IndexView, IsIndex, StandsFor, block_posts, title_in}
use Rattle.cs_file.specs.declared.fetched.Fetched.{Fetched}
use Rattle.cs_model_index.specs.Sections.{image_of}
use Rattle.cs_tables.specs.WordCounts.{is_chosen}
use Rattle.cs_rows.specs.IndexReading.{IsWithin}
use Rattle.cs_rows.specs.Sources.{seen}
use Rattle.cs_rows.specs.Stocked.{title_at}
use Rattle.cs_rows.proofs.OpenedLemmas.{opened_title}
use Rattle.cs_rows.proofs.ReplyLemmas.{titled}
use Rattle.cs_rows.proofs.StockLemmas.{docs_are, within_block}
use Rattle.cs_live.specs.States.{IsFetched, IsScoredNow, IsState, IsTitle, StateView, now_posts, rank, renumbered, source_now, stock_now}
use Rattle.cs_live.proofs.NumberLemmas.{known_word}
use Rattle.cs_live.proofs.NowLemmas.{all_now, between_now, chosen_now, get_map}
use Rattle.cs_live.proofs.PresentTitles.{title_gone, title_there}

module _ (s : StateView) (is : IsState s) where
  abbrev N : List Post → List Post
  N = now_posts s.shift s.present

  word_in : (n : ℕ) → n < length s.index.words → n < length s.shift
  word_in n lt = known_word s.index s.words s.shift is.shift n lt

  chosen_is : (lo hi : ℕ) (listed : List Bool) (p : Post) → p.word < length s.index.words → p.doc < s.index.docs
      → is_chosen lo hi listed (renumbered s.shift p) ≡ is_chosen (rank s.shift lo) (rank s.shift hi) (take s.index.docs listed) p
  chosen_is lo hi listed p word doc =
      ap₂ (λ x y. x && y) (between_now s.shift is.shift.rises lo hi p (word_in p.word word)) (sym (get_or-take s.index.docs listed p.doc false doc))

  sought_now : (lo hi : ℕ) (listed : List Bool) (posts : List Post) → All (IsRanged s.index) posts
      → All (λ p. is_chosen (rank s.shift lo) (rank s.shift hi) (take s.index.docs listed) p ≡ true) posts
      → All (λ p. is_chosen lo hi listed p ≡ true) (N posts)
  sought_now lo hi listed posts ranged h =
      let t = is_chosen (rank s.shift lo) (rank s.shift hi) (take s.index.docs listed) in
      all_now s.shift s.present (λ p. IsRanged s.index p × (t p ≡ true)) (λ p. is_chosen lo hi listed p ≡ true) posts
      (λ p e both. (let r = both.0 in chosen_is lo hi listed p r.word r.doc) ∙ both.1) (λ k d l. (ranged k d l, h k d l))

  stood_now : (b : List ℕ) → StandsFor b s.index → (lo hi : ℕ) (listed : List Bool) (posts : List Post) (k : ℕ) → k < length s.index.heads
      → posts ≡ filter (is_chosen (rank s.shift lo) (rank s.shift hi) (take s.index.docs listed)) (block_posts b k)
      → N posts ≡ filter (is_chosen lo hi listed) (get_or (map N (image_of b).blocks) k [])
  stood_now b stands lo hi listed posts k lt are =
      let t = is_chosen (rank s.shift lo) (rank s.shift hi) (take s.index.docs listed) in
      let u = is_chosen lo hi listed in
      let block = block_posts b k in
      ap N are
      ∙ sym (chosen_now s.shift s.present t u block
      (All-weaker (IsWithin s.index.docs (length s.index.words)) (λ p. u (renumbered s.shift p) ≡ t p) (λ p h. chosen_is lo hi listed p h.word h.doc) block
      (within_block b s.index stands is.index k lt).within))
      ∙ ap (filter u) (sym (get_map N refl (image_of b).blocks k))

  ranged_now : (posts : List Post) → All (IsRanged s.index) posts → All (IsRanged (seen (source_now s))) (N posts)
  ranged_now posts h =
      let count = is.count in
      all_now s.shift s.present (IsRanged s.index) (IsRanged (seen (source_now s))) posts
      (λ p e r. let doc = r.doc in record {
        doc = omega (arith, doc, count);
        word = is.shift.below p.word 0 (word_in p.word r.word);
        facet = r.facet;
        scored = r.scored;
      }) h

  -- ---- columns
  -- posts with these columns
  columns_posts : (docs words scores : List ℕ) → List Post
  columns_posts [] words scores = []
  columns_posts (d ∷ docs) [] scores = []
  columns_posts (d ∷ docs) (w ∷ words) [] = []
  columns_posts (d ∷ docs) (w ∷ words) (x ∷ scores) = record { doc = d; word = w; pos = 0; score = x } ∷ columns_posts docs words scores

  columns_are : (docs words scores : List ℕ) → length words ≡ length docs → length scores ≡ length docs → AreScoredOf (columns_posts docs words scores) docs words scores
  unfolding columns_posts
  columns_are [] [] [] a b = ((refl, refl), refl)
  columns_are [] (w ∷ words) scores a b = absurd (omega (arith, a))
  columns_are [] [] (x ∷ scores) a b = absurd (omega (arith, b))
  columns_are (d ∷ docs) [] scores a b = absurd (omega (arith, a))
  columns_are (d ∷ docs) (w ∷ words) [] a b = absurd (omega (arith, b))
  columns_are (d ∷ docs) (w ∷ words) (x ∷ scores) a b =
      let rest = columns_are docs words scores (omega (arith, a)) (omega (arith, b)) in
      ((ap (λ l. d ∷ l) rest.0.0, ap (λ l. w ∷ l) rest.0.1), ap (λ l. x ∷ l) rest.1)

  columns_known : (n m : ℕ) (docs words scores : List ℕ) → AllByRecursion (λ d. d < n) docs → AllByRecursion (λ w. w < m) words
      → AllByRecursion (λ x. (1 ≤ x) × (x ≤ MAX_ROW_SCORE)) scores → AllByRecursion (IsWithin n m) (columns_posts docs words scores)
  unfolding columns_posts
  columns_known n m [] words scores a b e = tt
  columns_known n m (d ∷ docs) [] scores a b e = tt
  columns_known n m (d ∷ docs) (w ∷ words) [] a b e = tt
  columns_known n m (d ∷ docs) (w ∷ words) (x ∷ scores) a b e = (
    record { doc = a.0; word = b.0; score_from = e.0.0; score_to = e.0.1 },
    columns_known n m docs words scores a.1 b.1 e.1,
  )

  columns_now : (posts : List Post) → All (IsWithin s.index.docs (length s.index.words)) posts → All (IsWithin (length s.present) (length s.words)) (N posts)
  columns_now posts h =
      let count = is.count in
      all_now s.shift s.present (IsWithin s.index.docs (length s.index.words)) (IsWithin (length s.present) (length s.words)) posts
      (λ p e w. let doc = w.doc in record {
        doc = omega (arith, doc, count);
        word = is.shift.below p.word 0 (word_in p.word w.word);
        score_from = w.score_from;
        score_to = w.score_to;
      }) h

-- what a fetch by a state's own parts gives
module _ (s : StateView) {i : IndexView} {told : Option (List ℕ)} {k : ℕ} {shift : List ℕ} {present : List Bool}
    (index_is : i ≡ s.index) (shift_is : shift ≡ s.shift) (present_is : present ≡ s.present) where
  pub fetched_by : {lo hi : ℕ} {listed : List Bool} {posts : List Post} → IsFetched i told k shift present lo hi listed posts
      → IsFetched s.index told k s.shift s.present lo hi listed posts
  fetched_by {lo} {hi} {listed} {posts} h = subst (λ x. IsFetched s.index told k s.shift x lo hi listed posts) present_is
      (subst (λ x. IsFetched s.index told k x present lo hi listed posts) shift_is
      (subst (λ x. IsFetched x told k shift present lo hi listed posts) index_is h))

  pub scored_by : {f : Fetched} → IsScoredNow i told k shift present f → IsScoredNow s.index told k s.shift s.present f
  scored_by {f} h = subst (λ x. IsScoredNow s.index told k s.shift x f) present_is
      (subst (λ x. IsScoredNow s.index told k x present f) shift_is
      (subst (λ x. IsScoredNow x told k shift present f) index_is h))

module _ (s : StateView) (is : IsState s) {told : Option (List ℕ)} {k lo hi : ℕ} {listed : List Bool} {posts : List Post} where
  pub fetched_ranged : IsFetched s.index told k s.shift s.present lo hi listed posts → All (IsRanged (seen (source_now s))) posts
  fetched_ranged f = subst (All (IsRanged (seen (source_now s)))) (sym f.now) (ranged_now s is f.read f.ranged)

  pub fetched_sought : IsFetched s.index told k s.shift s.present lo hi listed posts → All (λ p. is_chosen lo hi listed p ≡ true) posts
  fetched_sought f = subst (All (λ p. is_chosen lo hi listed p ≡ true)) (sym f.now) (sought_now s is lo hi listed f.read f.ranged f.sought)

  pub fetched_stood : (b : List ℕ) → told ≡ Some b → StandsFor b s.index → k < length s.index.heads → IsFetched s.index told k s.shift s.present lo hi listed posts
      → posts ≡ filter (is_chosen lo hi listed) (get_or (map (now_posts s.shift s.present) (image_of b).blocks) k [])
  fetched_stood b tells stands lt f = f.now ∙ stood_now s is b stands lo hi listed f.read k lt (f.stood b tells stands)

-- the same of documents, words and scores
record Columns (s : StateView) (f : Fetched) : Type 0 where
  posts : List Post
  within : All (IsWithin (length s.present) (length s.words)) posts
  are : AreScoredOf posts f.docs.items f.words.items f.scores.items

module _ (s : StateView) (is : IsState s) {told : Option (List ℕ)} {k : ℕ} {f : Fetched} where
  columns_of : IsScoredNow s.index told k s.shift s.present f → Columns s f
  columns_of o =
      let read = columns_posts s is o.docs o.words o.scores in
      record {
        posts = now_posts s.shift s.present read;
        within = columns_now s is read (All-from_recursion (IsWithin s.index.docs (length s.index.words)) read
            (columns_known s is s.index.docs (length s.index.words) o.docs o.words o.scores (recursion_from_All (λ d. d < s.index.docs) o.docs o.docs_within)
            (recursion_from_All (λ w. w < length s.index.words) o.words o.words_within)
            (recursion_from_All (λ x. (1 ≤ x) × (x ≤ MAX_ROW_SCORE)) o.scores o.scores_within)));
        are = o.now read (columns_are s is o.docs o.words o.scores o.words_even o.scores_even);
      }

  pub scored_words_even : IsScoredNow s.index told k s.shift s.present f → length f.words.items ≡ length f.docs.items
  scored_words_even h =
      let c = columns_of h in
      ap length c.are.0.1 ∙ length-map c.posts (λ (p : Post). p.word) ∙ sym (ap length c.are.0.0 ∙ length-map c.posts (λ (p : Post). p.doc))

  pub scored_scores_even : IsScoredNow s.index told k s.shift s.present f → length f.scores.items ≡ length f.docs.items
  scored_scores_even h =
      let c = columns_of h in
      ap length c.are.1 ∙ length-map c.posts (λ (p : Post). p.score) ∙ sym (ap length c.are.0.0 ∙ length-map c.posts (λ (p : Post). p.doc))

  pub scored_docs : IsScoredNow s.index told k s.shift s.present f → All (λ d. d < length s.present) f.docs.items
  scored_docs h =
      let c = columns_of h in
      subst (All (λ d. d < length s.present)) (sym c.are.0.0) (All-map (λ d. d < length s.present) (λ (p : Post). p.doc) c.posts
      (All-weaker (IsWithin (length s.present) (length s.words)) (λ p. p.doc < length s.present) (λ p w. w.doc) c.posts c.within))

  pub scored_words : IsScoredNow s.index told k s.shift s.present f → All (λ w. w < length s.words) f.words.items
  scored_words h =
      let c = columns_of h in
      subst (All (λ w. w < length s.words)) (sym c.are.0.1) (All-map (λ w. w < length s.words) (λ (p : Post). p.word) c.posts
      (All-weaker (IsWithin (length s.present) (length s.words)) (λ p. p.word < length s.words) (λ p w. w.word) c.posts c.within))

  pub scored_scores : IsScoredNow s.index told k s.shift s.present f → All (λ x. (1 ≤ x) × (x ≤ MAX_ROW_SCORE)) f.scores.items
  scored_scores h =
      let c = columns_of h in
      subst (All (λ x. (1 ≤ x) × (x ≤ MAX_ROW_SCORE))) (sym c.are.1) (All-map (λ x. (1 ≤ x) × (x ≤ MAX_ROW_SCORE)) (λ (p : Post). p.score) c.posts
      (All-weaker (IsWithin (length s.present) (length s.words)) (λ p. (1 ≤ p.score) × (p.score ≤ MAX_ROW_SCORE)) (λ p w. (w.score_from, w.score_to)) c.posts
      c.within))

  pub scored_stood : (b : List ℕ) → told ≡ Some b → StandsFor b s.index → IsScoredNow s.index told k s.shift s.present f
      → AreScoredOf (get_or (map (now_posts s.shift s.present) (image_of b).blocks) k []) f.docs.items f.words.items f.scores.items
  scored_stood b tells stands o =
      subst (λ ps. AreScoredOf ps f.docs.items f.words.items f.scores.items) (sym (get_map (now_posts s.shift s.present) refl (image_of b).blocks k))
      (o.now (block_posts b k) (o.stood b tells stands))

-- ---- titles
pub title_none : (i : IndexView) (told : Option (List ℕ)) (present : List Bool) (added : List (List ℕ)) (d : ℕ) (t : List ℕ) → get_or present d false ≡ false → t ≡ [] → IsTitle i told present added d t
title_none i told present added d t away none = record {
  text = ap is_utf8 none ∙ is_utf8-from_IsUtf8 [] IsUtf8-nil;
  gone = λ e. none;
  old = λ here lt. absurd (true≢false (sym here ∙ away));
  new = λ here le. absurd (true≢false (sym here ∙ away));
}

pub title_new : (i : IndexView) (told : Option (List ℕ)) (present : List Bool) (added : List (List ℕ)) (d : ℕ) (t : List ℕ) → get_or present d false ≡ true → i.docs ≤ d
    → d < i.docs + length added → All (λ x. is_utf8 x ≡ true) added → t ≡ get_or added (d - i.docs) [] → IsTitle i told present added d t
title_new i told present added d t here le lt texts is = record {
  text = subst (λ x. is_utf8 x ≡ true) (sym is) (texts (d - i.docs) [] (omega (arith, le, lt)));
  gone = λ away. absurd (true≢false (sym here ∙ away));
  old = λ h less. absurd (omega (arith, le, less));
  new = λ h l. is;
}

pub title_old : {E : Type 0} (i : IndexView) → IsIndex i → (told : Option (List ℕ)) (present : List Bool) (added : List (List ℕ)) (d : ℕ) → get_or present d false ≡ true → d < i.docs
    → (r : Result (List ℕ) E) → IfOk r (λ t. is_utf8 t ≡ true)
    → ((b : List ℕ) → told ≡ Some b → StandsFor b i → IfOk r (λ t. t ≡ title_in b d)) → IfOk r (IsTitle i told present added d)
title_old i is told present added d here lt (Ok t) text stood = record {
  text = text;
  gone = λ away. absurd (true≢false (sym here ∙ away));
  old = λ h l b tells stands. stood b tells stands ∙ opened_title i is b stands d lt;
  new = λ h le. absurd (omega (arith, lt, le));
}
title_old i is told present added d here lt (Err e) text stood = tt

pub title_stood : (s : StateView) → IsState s → {i : IndexView} {told : Option (List ℕ)} {present : List Bool} {added : List (List ℕ)} (d : ℕ) (t : List ℕ) → i ≡ s.index → present ≡ s.present
    → added ≡ s.added → d < length s.present → (b : List ℕ) → told ≡ Some b → StandsFor b s.index → IsTitle i told present added d t → t ≡ title_at (stock_now s b).titles d
title_stood s is {i} {told} {present} {added} d t index_is present_is added_is lt b tells stands h =
    let titles = (image_of b).titles in
    let all = titles ++ s.added in
    let docs : s.index.docs ≡ length titles = docs_are b s.index stands is.index in
    let own : IsTitle s.index told s.present s.added d t = subst (λ x. IsTitle s.index told s.present x d t) added_is (subst (λ x. IsTitle s.index told x added d t) present_is
    (subst (λ x. IsTitle x told present added d t) index_is h)) in
    elim (get_or s.present d false) as (λ here. get_or s.present d false ≡ here → t ≡ title_at (stock_now s b).titles d) [
      | false ↦ λ away. own.gone away ∙ sym (title_gone s.present all d away)
      | true ↦ λ here.
          elim (cases_lt d s.index.docs) [
            | inl old ↦
                let inside : d < length titles = omega (arith, old, docs) in
                own.old here old b tells stands ∙ titled titles d [] inside ∙ sym (get_or_append_left titles s.added [] d inside)
                ∙ sym (title_there s.present all d here)
            | inr new ↦
                own.new here new ∙ sym (get_or-append_right titles s.added s.index.docs d [] (sym docs) new) ∙ sym (title_there s.present all d here)
          ]
    ] refl
