-- The posts of two images with the numbers of one vocabulary are those of their corpora joined.
--
--   words_long          words of an index file have as many bytes as words may have
--   are_ready           one vocabulary of both, and the titles of both
--   posts_within        posts are of words that are there
--   known_posts         and so they are by their new numbers
--   rows_both           the rows of both, those of the second under later documents
--   in_order            brought into order they are the rows of both corpora
--   corpora_joined      with the titles of both they are the corpora joined
--   are_corpus          which is a corpus
--   words_of_rows       the words of both vocabularies are those of the rows
--   once                no row stands twice
--   keep_limits         titles, words and rows of both keep the limits of index files
use Rattle.std.proofs.Common.{◌≡◌, ℕ, ◌+◌, ◌≤◌, ◌<◌, ◌^◌, ◌||◌, Bool, true, List, [], ◌∷◌, ◌++◌, length, get_or, map, refl, sym, ap, ap₂, subst, ◌∙◌, arith, length-append}
use Rattle.std.specs.Prelude.{All, ◌&&◌, ◌==◌}
use Rattle.std.specs.List.{AllByRecursion, enumerate_from, list_any}
use Rattle.std.specs.List.Sorted.{IsStrictlySortedBy}
use Rattle.std.specs.Ordering.{eq_by_cmp, nat_cmp, ordering_then}
use Rattle.std.specs.Cmp.Lexicographic.{slice_cmp}
use Rattle.std.specs.Str.{IsUtf8, bytes_eq}
use Rattle.std.specs.declared.cmp.Ordering.TheVariants.{Less}
use Rattle.std.specs.FinMap.{contains_key, entries, from_entries, len, len-entries}
use Rattle.std.proofs.lemmas.Bool.{and_parts, eqb-true}
use Rattle.std.proofs.lemmas.Bool.Decides.{nat_tests}
use Rattle.std.proofs.lemmas.Cmp.{nat_list_cmp_total}
use Rattle.std.proofs.lemmas.List.{length-map, map-append}
use Rattle.std.proofs.lemmas.List.Concat.{length-flat_map}
use Rattle.std.proofs.lemmas.List.Elements.{All-append, All-from_recursion, All-weaker, recursion_from_All}
use Rattle.std.proofs.lemmas.List.Folds.{concat-append, list_any-append}
use Rattle.std.proofs.lemmas.List.FromFn.{length-enumerate_from}
use Rattle.std.proofs.lemmas.Map.Lookups.{exact_bytes}
use Rattle.cs_base.specs.content.Members.{members_in}
use Rattle.cs_base.specs.content.Orders.{by_row, by_spot}
use Rattle.cs_base.specs.declared.content.doc.Post.{Post}
use Rattle.cs_base.specs.declared.content.doc.Row.{Row}
use Rattle.cs_base.specs.declared.content.limits.TheConstants.{MAX_LINE_BYTES}
use Rattle.cs_base.specs.declared.content.scores.Weights.{Weights}
use Rattle.cs_base.proofs.ListsLemmas.{all_of, any_through}
use Rattle.cs_base.proofs.MembersLemmas.{all_then, is_member-listed, listed_itself, members-alike, members_are}
use Rattle.cs_base.proofs.OrdersLemmas.{Less-from_lt, by_row_exact, by_row_total, rows_up}
use Rattle.cs_model.specs.Corpus.{IsCorpus, by_number, distinct_words}
use Rattle.cs_model_changes.specs.Joined.{joined, later_row, later_title}
use Rattle.cs_model_changes.proofs.JoinedLemmas.{numbered}
use Rattle.cs_model_index.specs.BlockRules.{is_scored}
use Rattle.cs_model_index.specs.FileLaws.{HasLimits}
use Rattle.cs_model_index.specs.FileRules.{is_word}
use Rattle.cs_model_index.specs.Images.{Image, image_corpus, image_posts, image_rows}
use Rattle.cs_model_index.specs.Layout.{title_bytes}
use Rattle.cs_model_index.specs.Numbered.{HasWord, post_of, row_of, rows_at, word_at, word_number}
use Rattle.cs_model_index.specs.Partitions.{is_facet}
use Rattle.cs_model_index.proofs.CorpusLemmas.{known_words}
use Rattle.cs_model_index.proofs.CorpusSizes.{posts_few, posts_from, title_there, words_are}
use Rattle.cs_model_index.proofs.ImageLemmas.{titles_listed}
use Rattle.cs_model_index.proofs.Listings.{all_both, any_listed, listed_each}
use Rattle.cs_model_index.proofs.NumberedLemmas.{number_below, word_of_number}
use Rattle.cs_model_index.proofs.ReadCorpora.{titled}
use Rattle.cs_model_index.proofs.TextLimits.{word_length}
use Rattle.cs_model_merge.specs.Merges.{are_same}
use Rattle.cs_build.specs.Building.{KeepLimits, corpus_of_rows}
use Rattle.cs_build.specs.Joining.{joined_posts, joined_rows, moved_post}
use Rattle.cs_merge.specs.Merging.{FitTogether, IsOfFile}
use Rattle.cs_merge.specs.Vocabularies.{AreMerged, AreOfWordSize, IsShift}
use Rattle.cs_merge.specs.declared.vocabulary.Merging.{Merging}

-- ---- lists
all_map : {X Y : Type 0} (P : Y → Type 0) (f : X → Y) (xs : List X) → AllByRecursion (λ x. P (f x)) xs → AllByRecursion P (map f xs)
all_map P f [] h = tt
all_map P f (x ∷ xs) h = (h.0, all_map P f xs h.1)

-- ---- titles
further : (a b n : ℕ) → b ≡ a + n → a + 1 + n ≡ b + 1
further a b n h = omega (arith, h)

later_titles : (a n : ℕ) (ts : List (List ℕ)) → map (later_title n) (enumerate_from a ts) ≡ enumerate_from (a + n) ts
later_titles a n [] = refl
later_titles a n (t ∷ ts) = ap (λ l. (a + n, t) ∷ l) (later_titles (a + 1) n ts ∙ ap (λ m. enumerate_from m ts) (further a (a + n) n refl))

titles_count : (ts : List (List ℕ)) → len (by_number ts) ≡ length ts
titles_count ts = len-entries (by_number ts) ∙ ap length (titles_listed ts) ∙ length-enumerate_from 0 ts

joined_titles : (ts us : List (List ℕ)) → by_number (ts ++ us) ≡ from_entries (entries (by_number ts) ++ map (later_title (len (by_number ts))) (entries (by_number us)))
joined_titles ts us =
    let n = len (by_number ts) in
    let number : 0 + length ts ≡ 0 + n = ap (λ m. 0 + m) (sym (titles_count ts)) in
    ap (λ es. from_entries {R = nat_cmp} es)
    (numbered 0 ts us
    ∙ ap (λ l. l ++ enumerate_from (0 + length ts) us) (sym (titles_listed ts))
    ∙ ap (λ l. entries (by_number ts) ++ l)
    (ap (λ m. enumerate_from m us) number ∙ sym (later_titles 0 n us) ∙ ap (map (later_title n)) (sym (titles_listed us))))

-- ---- rows under later documents
not_later : (rs : List Row) → map (later_row 0) rs ≡ rs
not_later [] = refl
not_later (r ∷ rs) =
    let e : r.doc + 0 ≡ r.doc = omega arith in
    ap₂ (λ d l. (let q : Row = record { doc = d; word = r.word; pos = r.pos; score = r.score } in q) ∷ l) e (not_later rs)

same_order : (a b n : ℕ) → nat_cmp (a + n) (b + n) ≡ nat_cmp a b
same_order a b n = grind (arith, nat_tests)

later_less : (n : ℕ) (r q : Row) → by_spot r q ≡ Less → by_spot (later_row n r) (later_row n q) ≡ Less
later_less n r q h = ap (λ o. ordering_then o (ordering_then (nat_cmp r.pos q.pos) (slice_cmp nat_cmp r.word q.word))) (same_order r.doc q.doc n) ∙ h

later_rest : (n : ℕ) (r : Row) (rs : List Row) → AllByRecursion (λ q. by_spot r q ≡ Less) rs → AllByRecursion (λ q. by_spot (later_row n r) q ≡ Less) (map (later_row n) rs)
later_rest n r [] h = tt
later_rest n r (q ∷ rs) h = (later_less n r q h.0, later_rest n r rs h.1)

later_rises : (n : ℕ) (rs : List Row) → IsStrictlySortedBy by_spot rs → IsStrictlySortedBy by_spot (map (later_row n) rs)
unfolding IsStrictlySortedBy
later_rises n [] h = tt
later_rises n (r ∷ rs) h = (later_rest n r rs h.0, later_rises n rs h.1)

less_doc : (r q : Row) (n : ℕ) → r.doc < n → n ≤ q.doc → by_spot r q ≡ Less
less_doc r q n lt le = ap (λ o. ordering_then o (ordering_then (nat_cmp r.pos q.pos) (slice_cmp nat_cmp r.word q.word))) (Less-from_lt r.doc q.doc (omega (arith, lt, le)))

behind_rest : (n : ℕ) (r : Row) (xs ys : List Row) → r.doc < n → AllByRecursion (λ q. by_spot r q ≡ Less) xs → AllByRecursion (λ q. n ≤ q.doc) ys
    → AllByRecursion (λ q. by_spot r q ≡ Less) (xs ++ ys)
behind_rest n r [] ys lt h k = all_then (λ q. n ≤ q.doc) (λ q. by_spot r q ≡ Less) (λ q le. less_doc r q n lt le) ys k
behind_rest n r (x ∷ xs) ys lt h k = (h.0, behind_rest n r xs ys lt h.1 k)

sorted_behind : (n : ℕ) (xs ys : List Row) → IsStrictlySortedBy by_spot xs → IsStrictlySortedBy by_spot ys → AllByRecursion (λ r. r.doc < n) xs
    → AllByRecursion (λ q. n ≤ q.doc) ys → IsStrictlySortedBy by_spot (xs ++ ys)
unfolding IsStrictlySortedBy
sorted_behind n [] ys up_x up_y a b = up_y
sorted_behind n (x ∷ xs) ys up_x up_y a b = (behind_rest n x xs ys a.0 up_x.0 b, sorted_behind n xs ys up_x.1 up_y a.1 b)

later_docs : (n : ℕ) (rs : List Row) → AllByRecursion (λ r. n ≤ r.doc) (map (later_row n) rs)
later_docs n [] = tt
later_docs n (r ∷ rs) = (omega arith, later_docs n rs)

-- ---- what a merge begins with
-- one vocabulary with the numbers of both images' words, and the titles of both
pub record AreReady (a b : Image) (us : List (List ℕ)) (ns ms : List ℕ) (ts : List (List ℕ)) : Type 0 where
  pub first : IsShift a.words us ns
  pub second : IsShift b.words us ms
  pub words : us ≡ members_in (slice_cmp nat_cmp) (a.words ++ b.words)
  pub titles : ts ≡ a.titles ++ b.titles

pub are_ready : (a b : Image) (va vb ta tb : List (List ℕ)) (m : Merging) (us : List (List ℕ)) (first second : List ℕ) (titles : List (List ℕ)) → va ≡ a.words → vb ≡ b.words → ta ≡ a.titles → tb ≡ b.titles
    → AreMerged va vb m → us ≡ m.words.items → first ≡ m.first.items → second ≡ m.second.items → titles ≡ ta ++ tb → AreReady a b us first second titles
are_ready a b va vb ta tb m us first second titles same_a same_b titles_a titles_b h words one two are = record {
  first = subst (λ v. IsShift v us first) same_a (subst (λ ns. IsShift va us ns) (sym one) (subst (λ ws. IsShift va ws m.first.items) (sym words) h.first));
  second = subst (λ v. IsShift v us second) same_b (subst (λ ns. IsShift vb us ns) (sym two) (subst (λ ws. IsShift vb ws m.second.items) (sym words) h.second));
  words = words ∙ h.words ∙ ap₂ (λ v w. members_in (slice_cmp nat_cmp) (v ++ w)) same_a same_b;
  titles = are ∙ ap₂ (λ v w. v ++ w) titles_a titles_b;
}

-- ---- an image
module _ (i : Image) (of : IsOfFile i) where
  pub words_long : AreOfWordSize i.words
  words_long = All-weaker (λ w. is_word w ≡ true) (λ w. (1 ≤ length w) × (length w ≤ 138)) (λ w h. word_length w h) i.words of.words

  posts_within : AllByRecursion (λ p. p.word < length i.words) (image_posts i)
  posts_within =
      posts_from (image_corpus i) i.target i.weights i of.corpus of.image (λ r. Unit {0}) (λ p. p.word < length i.words) (λ r known _. number_below i.words r.word known)
      (all_of (λ r. Unit {0}) (λ r. tt) (image_corpus i).rows)

  pub posts_numbered : (us : List (List ℕ)) (shift : List ℕ) → IsShift i.words us shift → All (λ p. p.word < length shift) (image_posts i)
  posts_numbered us shift is =
      let long = is.long in
      All-from_recursion (λ p. p.word < length shift) (image_posts i)
      (all_then (λ p. p.word < length i.words) (λ p. p.word < length shift) (λ p lt. omega (arith, lt, long)) (image_posts i) posts_within)

  known_posts : (us : List (List ℕ)) (shift : List ℕ) (n : ℕ) → IsShift i.words us shift → All (λ p. p.word < length us) (map (moved_post shift n) (image_posts i))
  known_posts us shift n is =
      All-from_recursion (λ p. p.word < length us) (map (moved_post shift n) (image_posts i))
      (all_map (λ p. p.word < length us) (moved_post shift n) (image_posts i)
      (all_then (λ p. p.word < length shift) (λ p. get_or shift p.word 0 < length us) (λ p lt. is.below p.word 0 lt) (image_posts i)
      (recursion_from_All (λ p. p.word < length shift) (image_posts i) (posts_numbered us shift is))))

  moved_row : (us : List (List ℕ)) (shift : List ℕ) (n : ℕ) → IsShift i.words us shift → (p : Post) → p.word < length i.words → row_of us (moved_post shift n p) ≡ later_row n (row_of i.words p)
  moved_row us shift n is p lt = ap (λ w. let r : Row = record { doc = p.doc + n; word = w; pos = p.pos; score = p.score } in r) (is.same p.word lt)

  moved_rows : (us : List (List ℕ)) (shift : List ℕ) (n : ℕ) → IsShift i.words us shift → (ps : List Post) → AllByRecursion (λ p. p.word < length i.words) ps
      → rows_at us (map (moved_post shift n) ps) ≡ map (later_row n) (rows_at i.words ps)
  moved_rows us shift n is [] h = refl
  moved_rows us shift n is (p ∷ ps) h = ap₂ (λ x y. x ∷ y) (moved_row us shift n is p h.0) (moved_rows us shift n is ps h.1)

  rows_moved : (us : List (List ℕ)) (shift : List ℕ) (n : ℕ) → IsShift i.words us shift → rows_at us (map (moved_post shift n) (image_posts i)) ≡ map (later_row n) (image_rows i)
  rows_moved us shift n is = moved_rows us shift n is (image_posts i) posts_within

  -- its rows in order
  abbrev pub own_rows : List Row
  own_rows = members_in by_row (image_rows i)

  docs_within : AllByRecursion (λ r. r.doc < length i.titles) (members_in by_row (image_rows i))
  docs_within =
      all_then (λ r. contains_key (by_number i.titles) r.doc ≡ true) (λ r. r.doc < length i.titles) (λ r e. title_there i.titles r.doc e) own_rows
      (recursion_from_All (λ r. contains_key (by_number i.titles) r.doc ≡ true) own_rows of.corpus.of_docs)

  -- as many as it has posts
  rows_many : length (image_posts i) ≤ length (members_in by_row (image_rows i))
  rows_many = omega (arith, posts_few (image_corpus i) i.target i.weights i of.corpus of.image, length-flat_map (λ (block : List Post). block) i.blocks)

  -- a word is one of its vocabulary where a row has it
  word_in_rows : (q : List ℕ) → list_any (eq_by_cmp (slice_cmp nat_cmp) q) i.words ≡ list_any (λ r. eq_by_cmp (slice_cmp nat_cmp) q r.word) (image_rows i)
  word_in_rows q =
      ap (list_any (eq_by_cmp (slice_cmp nat_cmp) q)) (words_are (image_corpus i) i.target i.weights i of.corpus of.image)
      ∙ is_member-listed (slice_cmp nat_cmp) nat_list_cmp_total (map (λ r. r.word) own_rows) q
      ∙ any_through (λ (r : Row). r.word) (eq_by_cmp (slice_cmp nat_cmp) q) own_rows
      ∙ any_listed by_row by_row_total by_row_exact (λ r. eq_by_cmp (slice_cmp nat_cmp) q r.word) (image_rows i)

  -- ---- limits
  of_word : (P : List ℕ → Type 0) (ws : List (List ℕ)) (w : List ℕ) → All P ws → list_any (bytes_eq w) ws ≡ true → P w
  of_word P ws w all h = subst P (word_of_number ws w h) (all (word_number ws w) [] (number_below ws w h))

  rows_words : AllByRecursion (λ r. is_word r.word ≡ true) (members_in by_row (image_rows i))
  rows_words =
      all_then (HasWord i.words) (λ r. is_word r.word ≡ true) (λ r h. of_word (λ w. is_word w ≡ true) i.words r.word of.words h) own_rows
      (subst (λ ws. AllByRecursion (HasWord ws) own_rows) (sym (words_are (image_corpus i) i.target i.weights i of.corpus of.image)) (known_words own_rows))

  rows_scored : HasLimits i → AllByRecursion (λ r. is_scored i.weights (is_facet r.word) (post_of [] r) ≡ true) (members_in by_row (image_rows i))
  rows_scored limits =
      listed_each by_row by_row_total by_row_exact (λ r. is_scored i.weights (is_facet r.word) (post_of [] r) ≡ true) (image_rows i)
      (all_map (λ r. is_scored i.weights (is_facet r.word) (post_of [] r) ≡ true) (row_of i.words) (image_posts i)
      (recursion_from_All (λ p. is_scored i.weights (is_facet (word_at i.words p.word)) p ≡ true) (image_posts i) limits.scored))

-- ---- both
module _ (a b : Image) (of_a : IsOfFile a) (of_b : IsOfFile b) where
  abbrev n : ℕ
  n = length a.titles

  -- the rows of both corpora, one behind the other
  abbrev pub rows_joined : List Row
  rows_joined = members_in by_row (image_rows a) ++ map (later_row (length a.titles)) (members_in by_row (image_rows b))

  spots : IsStrictlySortedBy by_spot (members_in by_row (image_rows a) ++ map (later_row (length a.titles)) (members_in by_row (image_rows b)))
  spots =
      sorted_behind n (own_rows a of_a) (map (later_row n) (own_rows b of_b)) of_a.corpus.named (later_rises n (own_rows b of_b) of_b.corpus.named)
      (docs_within a of_a) (later_docs n (own_rows b of_b))

  below : AllByRecursion (λ r. r.doc < length (a.titles ++ b.titles)) (members_in by_row (image_rows a) ++ map (later_row (length a.titles)) (members_in by_row (image_rows b)))
  below =
      let many = length-append a.titles b.titles in
      all_both (λ r. r.doc < length (a.titles ++ b.titles)) (own_rows a of_a) (map (later_row n) (own_rows b of_b))
      (all_then (λ r. r.doc < length a.titles) (λ r. r.doc < length (a.titles ++ b.titles)) (λ r l. omega (arith, l, many)) (own_rows a of_a) (docs_within a of_a))
      (all_map (λ r. r.doc < length (a.titles ++ b.titles)) (later_row n) (own_rows b of_b)
      (all_then (λ r. r.doc < length b.titles) (λ r. r.doc + n < length (a.titles ++ b.titles)) (λ r l. omega (arith, l, many)) (own_rows b of_b) (docs_within b of_b)))

  module _ (us : List (List ℕ)) (first second : List ℕ) (is_a : IsShift a.words us first) (is_b : IsShift b.words us second) where
    abbrev all : List Row
    all = rows_at us (joined_posts a first b second)

    pub known_both : All (λ p. p.word < length us) (joined_posts a first b second)
    known_both = All-append (λ p. p.word < length us) (map (moved_post first 0) (image_posts a)) (map (moved_post second n) (image_posts b)) (known_posts a of_a us first 0 is_a) (known_posts b of_b us second n is_b)

    rows_both : rows_at us (joined_posts a first b second) ≡ image_rows a ++ map (later_row n) (image_rows b)
    rows_both =
        map-append (row_of us) (map (moved_post first 0) (image_posts a)) (map (moved_post second n) (image_posts b))
        ∙ ap₂ (λ x y. x ++ y) (rows_moved a of_a us first 0 is_a ∙ not_later (image_rows a)) (rows_moved b of_b us second n is_b)

    -- whatever stands among the rows stands among those of the corpora
    same_members : (t : Row → Bool) → list_any t (members_in by_row (image_rows a) ++ map (later_row (length a.titles)) (members_in by_row (image_rows b))) ≡ list_any t (rows_at us (joined_posts a first b second))
    same_members t =
        list_any-append t (own_rows a of_a) (map (later_row n) (own_rows b of_b))
        ∙ ap₂ (λ x y. x || y) (any_listed by_row by_row_total by_row_exact t (image_rows a))
        (any_through (later_row n) t (own_rows b of_b) ∙ any_listed by_row by_row_total by_row_exact (λ r. t (later_row n r)) (image_rows b) ∙ sym (any_through (later_row n) t (image_rows b)))
        ∙ sym (list_any-append t (image_rows a) (map (later_row n) (image_rows b)))
        ∙ ap (list_any t) (sym rows_both)

    pub in_order : joined_rows us a first b second ≡ members_in by_row (image_rows a) ++ map (later_row (length a.titles)) (members_in by_row (image_rows b))
    in_order = sym (members_are by_row by_row_total by_row_exact (rows_joined) all (rows_up rows_joined spots) (λ q. same_members (eq_by_cmp by_row q)))

    pub corpora_joined : corpus_of_rows (a.titles ++ b.titles) (joined_rows us a first b second) ≡ joined (image_corpus a) (image_corpus b)
    corpora_joined =
        let count = titles_count a.titles in
        let rows : joined_rows us a first b second ≡ members_in by_row (own_rows a of_a ++ map (later_row (len (by_number a.titles))) (own_rows b of_b)) =
        in_order ∙ listed_itself by_row by_row_total by_row_exact rows_joined (rows_up rows_joined spots)
        ∙ ap (λ m. members_in by_row (own_rows a of_a ++ map (later_row m) (own_rows b of_b))) (sym count) in
        λ k. record { titles = joined_titles a.titles b.titles k; rows = rows k }

    pub are_corpus : IsCorpus (corpus_of_rows (a.titles ++ b.titles) (joined_rows us a first b second))
    are_corpus = subst (λ rows. IsCorpus (corpus_of_rows (a.titles ++ b.titles) rows)) (sym in_order) (record {
      named = spots;
      of_docs = All-from_recursion (λ r. contains_key (by_number (a.titles ++ b.titles)) r.doc ≡ true) rows_joined
          (all_then (λ r. r.doc < length (a.titles ++ b.titles)) (λ r. contains_key (by_number (a.titles ++ b.titles)) r.doc ≡ true) (λ r l. titled (a.titles ++ b.titles) r.doc l) rows_joined below);
    })

    pub words_of_rows : us ≡ members_in (slice_cmp nat_cmp) (a.words ++ b.words) → us ≡ distinct_words (rows_at us (joined_posts a first b second))
    words_of_rows is =
        is ∙ members-alike (slice_cmp nat_cmp) nat_list_cmp_total exact_bytes (a.words ++ b.words) (map (λ r. r.word) all)
        (λ q.
        let t : Row → Bool = λ r. eq_by_cmp (slice_cmp nat_cmp) q r.word in
        list_any-append (eq_by_cmp (slice_cmp nat_cmp) q) a.words b.words
        ∙ ap₂ (λ x y. x || y) (word_in_rows a of_a q) (word_in_rows b of_b q ∙ sym (any_through (later_row n) t (image_rows b)))
        ∙ sym (list_any-append t (image_rows a) (map (later_row n) (image_rows b)))
        ∙ ap (list_any t) (sym rows_both)
        ∙ sym (any_through (λ (r : Row). r.word) (eq_by_cmp (slice_cmp nat_cmp) q) all))

    posts_many : length (joined_posts a first b second) ≡ length (image_posts a) + length (image_posts b)
    posts_many =
        length-append (map (moved_post first 0) (image_posts a)) (map (moved_post second n) (image_posts b))
        ∙ ap₂ (λ x y. x + y) (length-map (image_posts a) (moved_post first 0)) (length-map (image_posts b) (moved_post second n))

    pub once : length (joined_posts a first b second) ≤ length (joined_rows us a first b second)
    once =
        omega (
          arith,
          posts_many,
          ap length in_order,
          length-append (own_rows a of_a) (map (later_row n) (own_rows b of_b)),
          length-map (own_rows b of_b) (later_row n),
          rows_many a of_a,
          rows_many b of_b,
        )

    pub few_posts : (most : ℕ) → length (image_posts a) + length (image_posts b) ≤ most → length (joined_posts a first b second) ≤ most
    few_posts most few = omega (arith, posts_many, few)

    same_weights : (v w : Weights) → are_same v w ≡ true → v ≡ w
    same_weights v w h =
        let p = and_parts (v.title == w.title) ((v.facet == w.facet) && (v.text == w.text)) h in
        let q = and_parts (v.facet == w.facet) (v.text == w.text) p.1 in
        let title : v.title ≡ w.title = eqb-true _ _ p.0 in
        let facet : v.facet ≡ w.facet = eqb-true _ _ q.0 in
        let text : v.text ≡ w.text = eqb-true _ _ q.1 in
        λ i. record { title = title i; facet = facet i; text = text i }

    pub keep_limits : FitTogether a b → HasLimits a → HasLimits b → KeepLimits a.weights (a.titles ++ b.titles) (joined_rows us a first b second)
    keep_limits fit limits_a limits_b = subst (KeepLimits a.weights (a.titles ++ b.titles)) (sym in_order) (record {
      weights = limits_a.weights;
      texts = All-append IsUtf8 a.titles b.titles limits_a.texts limits_b.texts;
      short = All-append (λ t. length t ≤ MAX_LINE_BYTES) a.titles b.titles limits_a.short limits_b.short;
      few_bytes = bytes_few fit;
      words = All-from_recursion (λ r. is_word r.word ≡ true) rows_joined
          (all_both (λ r. is_word r.word ≡ true) (own_rows a of_a) (map (later_row n) (own_rows b of_b)) (rows_words a of_a) (all_map (λ r. is_word r.word ≡ true) (later_row n) (own_rows b of_b) (rows_words b of_b)));
      scored =
          (let P : Row → Type 0 = λ r. is_scored a.weights (is_facet r.word) (post_of [] r) ≡ true in
          let scored_b = subst (λ w. AllByRecursion (λ r. is_scored w (is_facet r.word) (post_of [] r) ≡ true) (own_rows b of_b)) (sym (same_weights a.weights b.weights fit.weights)) (rows_scored b of_b limits_b) in
          All-from_recursion P rows_joined (all_both P (own_rows a of_a) (map (later_row n) (own_rows b of_b)) (rows_scored a of_a limits_a) (all_map P (later_row n) (own_rows b of_b) scored_b)));
    })
      where
        bytes_few : FitTogether a b → length (title_bytes (a.titles ++ b.titles)) < 2 ^ 32
        bytes_few fit = (let few = fit.titles in omega (arith, few, ap length (concat-append a.titles b.titles), length-append (title_bytes a.titles) (title_bytes b.titles)))
