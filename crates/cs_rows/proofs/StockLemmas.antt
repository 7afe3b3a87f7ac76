-- The posts of an index file as a corpus in one order.
--
--   kept_all          what each row that keeps a rule is
--   score_fits        a score of the weights is one that a row may have
--   block_within      the posts of a block are in order and in range
--   in_block          a post of the file is one of some block
--   one_post_of       of the posts of a file one alone has a document, position and word
--   stock_fits        the posts of the stock are in range
--   stocked           what is read of an index file is a stock
--   stock_corpus      its corpus is that of the file
use Rattle.std.proofs.Common.{◌≡◌, ℕ, suc, ◌+◌, ◌-◌, ◌<◌, ◌≤◌, ◌==◌, ◌&&◌, Bool, true, false, true≢false, List, [], ◌∷◌, length, get_or, drop, Option, Some}
use Rattle.std.proofs.Common.{None, refl, sym, ap, subst, ◌∙◌, arith, inl, inr}
use Rattle.std.specs.Prelude.{All, flat_map}
use Rattle.std.specs.List.{AllByRecursion, Contains, zip}
use Rattle.std.specs.List.Sorted.{IsStrictlySortedBy}
use Rattle.std.specs.Ordering.{nat_cmp, ordering_then, eq_by_cmp, is_lt}
use Rattle.std.specs.declared.cmp.Ordering.{Ordering}
use Rattle.std.specs.declared.cmp.Ordering.TheVariants.{Less, Equal, Greater}
use Rattle.std.specs.Cmp.{IsTotalOrder, tied_itself, Equal-is}
use Rattle.std.specs.FinMap.{IsAntisymmetric, contains_key}
use Rattle.std.specs.Cmp.Lexicographic.{slice_cmp}
use Rattle.std.specs.Str.{IsUtf8, is_utf8}
use Rattle.std.proofs.lemmas.Bool.{and_parts, cases_lt}
use Rattle.std.proofs.lemmas.Bool.Decides.{nat_tests}
use Rattle.std.proofs.lemmas.Cmp.{then_total, on_total, nat_cmp_total}
use Rattle.std.proofs.lemmas.List.{length-map}
use Rattle.std.proofs.lemmas.List.Elements.{All-from_recursion, recursion_from_All, All-contains, Contains-get_or, Contains-append_cases}
use Rattle.std.proofs.lemmas.Map.Lookups.{exact_pairs, exact_unsigned}
use Rattle.std.proofs.lemmas.Map.Views.{Contains-from_any}
use Rattle.std.proofs.lemmas.List.Folds.{list_any_at}
use Rattle.std.proofs.lemmas.Str.{IsUtf8-from_is_utf8}
use Rattle.cs_base.specs.content.Orders.{by_row, by_place, AreSorted}
use Rattle.cs_base.specs.declared.content.doc.Post.{Post}
use Rattle.cs_base.specs.declared.content.doc.Row.{Row}
use Rattle.cs_base.specs.declared.content.scores.TheConstants.{MAX_ROW_SCORE}
use Rattle.cs_base.specs.declared.content.scores.Weights.{Weights}
use Rattle.cs_base.specs.declared.index.block.BlockHead.{BlockHead}
use Rattle.cs_base.proofs.MembersLemmas.{any_listed, all_then, members_are, is_member-listed, listing-rises}
use Rattle.cs_base.proofs.OrdersLemmas.{by_row_total, by_row_exact, by_place_total}
use Rattle.cs_base.proofs.ListsLemmas.{same_number, any_through}
use Rattle.cs_file.specs.Indexes.{IndexView, IsIndex, StandsFor, block_posts}
use Rattle.cs_file.proofs.HeadsLemmas.{heads_rise, head_within}
use Rattle.cs_file.proofs.StoodLemmas.{stood, stood_count, stood_block}
use Rattle.cs_file.proofs.PostsLemmas.{block_docs, block_words}
use Rattle.cs_meet.specs.Filters.{shares_place}
use Rattle.cs_model.specs.Answers.{is_listed}
use Rattle.cs_model.specs.Corpus.{Corpus, by_number}
use Rattle.cs_model.specs.Weights.{AreWeights}
use Rattle.cs_model_index.specs.BlockRules.{keeps, is_scored, in_kind, IsBlock}
use Rattle.cs_model_index.specs.Images.{image_posts}
use Rattle.cs_model_index.specs.Sections.{contents_of, image_of, file_corpus}
use Rattle.cs_rows.specs.IndexReading.{by_post, stock_of, IsWithin, AreWithin}
use Rattle.cs_model_index.specs.Numbered.{row_of, rows_at}
use Rattle.cs_rows.specs.Stocked.{corpus_in, IsKnown, IsStocked}
use Rattle.cs_rows.proofs.ListedLemmas.{in_range, keys_numbered}
use Rattle.cs_rows.proofs.PresentLemmas.{is_titled}
use Rattle.cs_rows.proofs.UnionLemmas.{one_post}
use Rattle.cs_rows.proofs.VocabLemmas.{rows_rise}

-- ---- one order of posts
pub by_post_total : IsTotalOrder by_post
by_post_total = then_total by_place_total (on_total (λ p. p.score) nat_cmp_total)

pub by_post_exact : IsAntisymmetric by_post
by_post_exact a b h =
    let spots = exact_pairs nat_cmp _ exact_unsigned (exact_pairs nat_cmp nat_cmp exact_unsigned exact_unsigned) in
    ap (λ (p : (ℕ × (ℕ × ℕ)) × ℕ). let r : Post = record { doc = p.0.0; pos = p.0.1.0; word = p.0.1.1; score = p.1 } in r)
    (exact_pairs _ nat_cmp spots exact_unsigned ((a.doc, (a.pos, a.word)), a.score) ((b.doc, (b.pos, b.word)), b.score) h)

all_tied : (a b c : Ordering) → ordering_then a (ordering_then b c) ≡ Equal → (a ≡ Equal) × (b ≡ Equal) × (c ≡ Equal)
all_tied Less b c h = absurd cc
all_tied Greater b c h = absurd cc
all_tied Equal Less c h = absurd cc
all_tied Equal Greater c h = absurd cc
all_tied Equal Equal c h = (refl, refl, h)

tie_number : (m n : ℕ) → nat_cmp m n ≡ Equal → (n == m) ≡ true
tie_number m n h = grind (arith, nat_tests)

all_three : (a b c : Bool) → a ≡ true → b ≡ true → c ≡ true → (a && (b && c)) ≡ true
all_three a b c p q r = rw (p, q, r) refl

place_shared : (x y : Post) → by_place x y ≡ Equal → shares_place x y ≡ true
place_shared x y h =
    let t = all_tied (nat_cmp x.doc y.doc) (nat_cmp x.pos y.pos) (nat_cmp x.word y.word) h in
    all_three (y.doc == x.doc) (y.pos == x.pos) (y.word == x.word) (tie_number x.doc y.doc t.0) (tie_number x.pos y.pos t.1) (tie_number x.word y.word t.2)

before : (o p : Ordering) → ordering_then o p ≡ Less → ¬ (o ≡ Equal) → o ≡ Less
before Less p h n = refl
before Equal p h n = absurd (n refl)
before Greater p h n = absurd cc

abbrev IsOne : List Post → Type 0
IsOne posts = (x y : Post) → Contains posts x → Contains posts y → shares_place x y ≡ true → x ≡ y

place_less : (x y : Post) → by_post x y ≡ Less → (shares_place x y ≡ true → x ≡ y) → by_place x y ≡ Less
place_less x y h one =
    before (by_place x y) (nat_cmp x.score y.score) h (λ tied.
    true≢false (sym (ap is_lt (ap (by_post x) (one (place_shared x y tied)) ∙ h)) ∙ ap is_lt (tied_itself by_post_total x)))

one_rest : (x : Post) (xs : List Post) → IsOne (x ∷ xs) → IsOne xs
one_rest x xs one a b (i, i_in, at_a) (j, j_in, at_b) same = one a b (suc i, omega (arith, i_in), at_a) (suc j, omega (arith, j_in), at_b) same

places_rise : (xs : List Post) → IsStrictlySortedBy by_post xs → IsOne xs → AreSorted xs
unfolding IsStrictlySortedBy
places_rise [] up one = tt
places_rise (x ∷ xs) up one =
    let less = All-from_recursion (λ y. by_post x y ≡ Less) xs up.0 in
    let each : All (λ y. by_place x y ≡ Less) xs = λ k d l. place_less x (get_or xs k d) (less k d l)
    (one x (get_or xs k d) (Contains-get_or (x ∷ xs) 0 x (omega arith)) (Contains-get_or (x ∷ xs) (suc k) d (omega (arith, l)))) in
    (recursion_from_All (λ y. by_place x y ≡ Less) xs each, places_rise xs up.1 (one_rest x xs one))

-- ---- the posts of a block
pub kept_all : (holds : Option Post → Post → Bool) (P : Post → Type 0) → ((last : Option Post) (r : Post) → holds last r ≡ true → P r)
    → (last : Option Post) (rs : List Post) → keeps holds last rs ≡ true → AllByRecursion P rs
unfolding keeps
kept_all holds P f last [] e = tt
kept_all holds P f last (r ∷ rs) e = let p = and_parts (holds last r) (keeps holds (Some r) rs) e in (f last r p.0, kept_all holds P f (Some r) rs p.1)

pub score_fits : (w : Weights) → AreWeights w → (facet : Bool) (r : Post) → is_scored w facet r ≡ true → (1 ≤ r.score) × (r.score ≤ MAX_ROW_SCORE)
score_fits w fine true r h =
    let from = fine.facet_from in
    let to = fine.facet_to in
    (grind (arith, nat_tests, from), grind (arith, nat_tests, to))
score_fits w fine false r h =
    let title_from = fine.title_from in
    let title_to = fine.title_to in
    let text_from = fine.text_from in
    let text_to = fine.text_to in
    (grind (arith, nat_tests, title_from, text_from), grind (arith, nat_tests, title_to, text_to))

pub block_within : (i : IndexView) → IsIndex i → (k : ℕ) (d : BlockHead) → k < length i.heads → (rs : List Post) (bytes : List ℕ)
    → IsBlock i.weights (get_or i.heads k d) i.docs rs bytes → AreWithin i rs
block_within i is k d lt rs bytes block =
    let h = get_or i.heads k d in
    let docs = block_docs h i.docs rs bytes block in
    let words = block_words h i.docs rs bytes block in
    let to = head_within i is k d lt in
    let Fits : Post → Type 0 = λ r. (1 ≤ r.score) × (r.score ≤ MAX_ROW_SCORE) in
    let fits = All-from_recursion Fits rs
    (kept_all (in_kind i.weights h).holds Fits (λ last r e. score_fits i.weights is.weights h.facet r e) None rs block.meets.1.1.0) in
    record {
      sorted = block.writable.sorted;
      within = λ j e l.
          let score = fits j e l in
          record { doc = docs j e l; word = (let w = words j e l in omega (arith, w.1, to)); score_from = score.0; score_to = score.1 };
    }

-- ---- the posts of all blocks
pub in_block : (bs : List (List Post)) (x : Post) → Contains (flat_map (λ block. block) bs) x → (k : ℕ) × (k < length bs) × Contains (get_or bs k []) x
in_block [] x (i, i_in, at) = absurd (omega (arith, i_in))
in_block (b ∷ bs) x c =
    elim (Contains-append_cases b (flat_map (λ block. block) bs) x c) [
      | inl here ↦ (0, omega arith, here)
      | inr there ↦ let (k, l, at) = in_block bs x there in (suc k, omega (arith, l), at)
    ]

none : BlockHead
none = record { lo = 0; words = 0; rows = 0; len = 0; facet = false; least = 0; greatest = 0 }

module _ (b : List ℕ) (i : IndexView) (s : StandsFor b i) (is : IsIndex i) where
  abbrev all : List Post
  all = image_posts (image_of b)

  abbrev at_block : (k : ℕ) → k < length (image_of b).blocks → k < length i.heads
  at_block k l = let count = stood_count b i s in omega (arith, count, l)

  pub within_block : (k : ℕ) → k < length i.heads → AreWithin i (block_posts b k)
  within_block k l = block_within i is k none l (block_posts b k) _ (stood_block b i s is k none l)

  within_all : (x : Post) → Contains all x → IsWithin i.docs (length i.words) x
  within_all x c =
      let (k, l, at) = in_block (image_of b).blocks x c in
      All-contains (IsWithin i.docs (length i.words)) (block_posts b k) x (within_block k (at_block k l)).within at

  words_of : (k : ℕ) → k < length i.heads → (x : Post) → Contains (block_posts b k) x
      → ((get_or i.heads k none).lo ≤ x.word) × (x.word < (get_or i.heads k none).lo + (get_or i.heads k none).words)
  words_of k l x at =
      let h = get_or i.heads k none in
      All-contains (λ p. (h.lo ≤ p.word) × (p.word < h.lo + h.words)) (block_posts b k) x
      (block_words h i.docs (block_posts b k) _ (stood_block b i s is k none l)) at

  same_word : (x y : Post) → shares_place x y ≡ true → y.word ≡ x.word
  same_word x y same =
      let word = (and_parts (y.pos == x.pos) (y.word == x.word) (and_parts (y.doc == x.doc) _ same).1).1 in
      same_number y.word x.word word

  one_of_all : IsOne all
  one_of_all x y in_x in_y same =
      let (j, l, at_x) = in_block (image_of b).blocks x in_x in
      let (k, m, at_y) = in_block (image_of b).blocks y in_y in
      let j_in = at_block j l in
      let k_in = at_block k m in
      let words_x = words_of j j_in x at_x in
      let words_y = words_of k k_in y at_y in
      let word_is = same_word x y same in
      elim (cases_lt j k) [
        | inl up ↦ let r = heads_rise i is j k none up k_in in absurd (omega (arith, words_x.1, r, words_y.0, word_is))
        | inr ge ↦ elim (cases_lt k j) [
          | inl down ↦ let r = heads_rise i is k j none down j_in in absurd (omega (arith, words_y.1, r, words_x.0, word_is))
          | inr le ↦
              let here : k ≡ j = omega (arith, ge, le) in
              one_post (block_posts b j) (within_block j j_in).sorted x y at_x (subst (λ n. Contains (block_posts b n) y) here at_y) same
        ]
      ]

  -- a post of the stock is one of the file
  pub in_file : (x : Post) → Contains (stock_of b).posts x → Contains all x
  in_file x (k, l, at) =
      Contains-from_any (λ p q e. by_post_exact p q ((Equal-is (by_post p q)).0 e)) x all
      (sym (is_member-listed by_post by_post_total all x)
      ∙ list_any_at (eq_by_cmp by_post x) (stock_of b).posts k x l (ap (eq_by_cmp by_post x) at ∙ (Equal-is (by_post x x)).1 (tied_itself by_post_total x)))

  pub words_are : i.words ≡ (stock_of b).words
  words_are = (stood b i s).words

  titles_count : length (image_of b).titles ≡ length (contents_of b).offsets - 1
  unfolding image_of
  titles_count = length-map (zip (contents_of b).offsets (drop 1 (contents_of b).offsets)) _ ∙ zip_length (contents_of b).offsets
    where
      zip_one : (x : ℕ) (xs : List ℕ) → length (zip (x ∷ xs) xs) ≡ length xs
      zip_one x [] = refl
      zip_one x (y ∷ ys) = ap suc (zip_one y ys)

      zip_length : (xs : List ℕ) → length (zip xs (drop 1 xs)) ≡ length xs - 1
      zip_length [] = refl
      zip_length (x ∷ xs) = zip_one x xs ∙ (let e : length xs ≡ length (x ∷ xs) - 1 = omega arith in e)

  pub docs_are : i.docs ≡ length (image_of b).titles
  docs_are = let offsets = is.offsets in let same = ap length (stood b i s).offsets in omega (arith, offsets, same, titles_count)

  texts : All IsUtf8 i.words
  texts = λ k d l. IsUtf8-from_is_utf8 (get_or i.words k d) (and_parts (is_utf8 (get_or i.words k d)) _ (is.words k d l)).0

  -- each document has a title
  title_there : (d : ℕ) → d < i.docs → contains_key (stock_of b).titles d ≡ true
  title_there d lt =
      sym (is_titled (stock_of b).titles d)
      ∙ ap (λ ds. is_listed ds d) (keys_numbered (image_of b).titles)
      ∙ in_range 0 (length (image_of b).titles) d (omega arith) (omega (arith, lt, docs_are))

  pub stock_fits : All (IsWithin i.docs (length i.words)) (stock_of b).posts
  stock_fits = λ k d l. within_all (get_or (stock_of b).posts k d) (in_file (get_or (stock_of b).posts k d) (Contains-get_or (stock_of b).posts k d l))

  pub stocked : IsStocked (stock_of b)
  stocked = record {
    words = subst (IsStrictlySortedBy (slice_cmp nat_cmp)) words_are is.ascending;
    few_words = (let few = is.few_words in omega (arith, ap length words_are, few));
    texts = subst (All IsUtf8) words_are texts;
    sorted = places_rise (stock_of b).posts (listing-rises by_post all) (λ x y in_x in_y same. one_of_all x y (in_file x in_x) (in_file y in_y) same);
    known = λ k d l.
        let w = stock_fits k d l in
        let word = w.word in
        record { doc = title_there (get_or (stock_of b).posts k d).doc w.doc; word = omega (arith, word, ap length words_are); score_from = w.score_from; score_to = w.score_to };
  }

  pub stock_corpus : corpus_in (stock_of b) ≡ file_corpus b
  stock_corpus =
      let st = stocked in
      let ws = (stock_of b).words in
      let known = all_then (IsKnown (stock_of b)) (λ p. p.word < length ws) (λ p h. h.word) (stock_of b).posts
      (recursion_from_All (IsKnown (stock_of b)) (stock_of b).posts st.known) in
      ap (λ (rows : List Row). let k : Corpus = record { titles = by_number (image_of b).titles; rows = rows } in k)
      (members_are by_row by_row_total by_row_exact (rows_at ws (stock_of b).posts) (rows_at ws all) (rows_rise ws st.words (stock_of b).posts known st.sorted)
      (λ q. any_through (row_of ws) (eq_by_cmp by_row q) (stock_of b).posts
      ∙ any_listed by_post by_post_total by_post_exact (λ p. eq_by_cmp by_row q (row_of ws p)) all
      ∙ sym (any_through (row_of ws) (eq_by_cmp by_row q) all)))
