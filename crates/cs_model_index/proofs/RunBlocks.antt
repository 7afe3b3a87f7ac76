-- The block of a run keeps the rules of blocks, and its head those of the directory.
--
--   RunFacts       what is asked of a run, its head and its block
--   in_run         each word of a run is among its words
--   AreRows        what holds of the words and rows of a corpus
--   first_word     the word with which a run begins
--   posts_of_word  a block has as many posts of a word as the word has rows
--   block_size     a block has as many posts as the words of its run have rows
--   run_writable   a block of few words can hold its posts
--   run_facts      what is asked holds of each run of a partition
--   run_closed     a run that another one follows is closed
use Rattle.std.proofs.Common.{◌≡◌, ℕ, zero, suc, ◌+◌, ◌-◌, ◌*◌, ◌<◌, ◌≤◌, ◌^◌, ◌&&◌, ◌||◌, Bool, true, false, true≢false, not, cond, List, [], ◌∷◌, ◌++◌, length, take, drop, refl, sym, ap, ◌∙◌, arith, take_at, drop_at}
use Rattle.std.specs.Bool.{◌==◌}
use Rattle.std.specs.Prelude.{Some, filter, nat_le, nat_lt}
use Rattle.std.specs.List.{AllByRecursion, list_any, list_all, sum_by, count_by, range_with_len, slice_get}
use Rattle.std.specs.List.Sorted.{IsStrictlySortedBy}
use Rattle.std.specs.Ordering.{nat_cmp}
use Rattle.std.specs.Cmp.Lexicographic.{slice_cmp}
use Rattle.std.specs.Str.{bytes_eq}
use Rattle.std.proofs.lemmas.Bool.{and_parts, and_from, le-leb, leb-true, or_left, or_right}
use Rattle.std.proofs.lemmas.Bool.Decides.{nat_tests}
use Rattle.std.proofs.lemmas.List.{length-map}
use Rattle.std.proofs.lemmas.List.Elements.{All-from_recursion}
use Rattle.std.proofs.lemmas.List.Kept.{IsStrictlySortedBy-filter}
use Rattle.std.proofs.lemmas.List.Sums.{sum_by-cons}
use Rattle.std.proofs.lemmas.Slice.Eq.{bytes_eq-Decides}
use Rattle.cs_base.specs.content.Orders.{by_spot}
use Rattle.cs_base.specs.declared.content.doc.Post.{Post}
use Rattle.cs_base.specs.declared.content.doc.Row.{Row}
use Rattle.cs_base.specs.declared.content.limits.TheConstants.{MAX_ROWS, MAX_WORDS, MAX_DOCS}
use Rattle.cs_base.specs.declared.content.scores.Weights.{Weights}
use Rattle.cs_model.specs.Words.{is_filled}
use Rattle.cs_model_index.specs.BlockBounds.{doc_or_zero, least_of, greatest_of}
use Rattle.cs_model_index.specs.Blocks.{AreWritable, IsShaped, block_bytes}
use Rattle.cs_model_index.specs.BlockRules.{is_scored, IsBlock}
use Rattle.cs_model_index.specs.FileRules.{has_rows, is_closed, is_of_one_kind, is_sized}
use Rattle.cs_model_index.specs.Images.{block_of, count_in, head_of}
use Rattle.cs_model_index.specs.Numbered.{word_at, word_number, post_of, HasWord}
use Rattle.cs_model_index.specs.Partitions.{is_alike, is_ended, is_facet, is_full, is_light, is_one_kind, is_run, kind_of, rows_of_run}
use Rattle.cs_model_index.specs.declared.limits.TheConstants.{MAX_BLOCK_WORDS}
use Rattle.cs_model_index.proofs.AgainLemmas.{HeadFits}
use Rattle.cs_model_index.proofs.BlockSizes.{block_len, meet_all}
use Rattle.cs_model_index.proofs.CorpusLemmas.{kept}
use Rattle.cs_model_index.proofs.NumberedLemmas.{word_of_number, number_of_word, number_below, posts_ascend}
use Rattle.cs_model_index.proofs.RunRows.{Run, has, IsAt, count_word, count_run, count_some, each_post, run_word, run_known, run_number, run_apart, run_within}
use Rattle.cs_base.proofs.MembersLemmas.{all_then}
use Rattle.cs_model_index.proofs.Listings.{both_all}

-- ---- lists
pub itself : (w : List ℕ) → bytes_eq w w ≡ true
itself w = (bytes_eq-Decides w w).1 refl

pub in_run : (run : Run) (k : ℕ) → k < length run → list_any (bytes_eq (word_at run k)) run ≡ true
in_run [] k l = absurd (omega (arith, l))
in_run (w ∷ run) zero l = or_left (bytes_eq w w) (list_any (bytes_eq w) run) (itself w)
in_run (w ∷ run) (suc k) l = or_right (bytes_eq (word_at run k) w) (list_any (bytes_eq (word_at run k)) run) (in_run run k (omega (arith, l)))

one_of_all_at : (p : List ℕ → Bool) (v w : List ℕ) (b rest : Bool) → bytes_eq v w ≡ b → p w ≡ true → (b || rest) ≡ true → (rest ≡ true → p v ≡ true) → p v ≡ true
one_of_all_at p v w true rest e here h more = ap p ((bytes_eq-Decides v w).0 e) ∙ here
one_of_all_at p v w false rest e here h more = more h

one_of_all : (p : List ℕ → Bool) (run : Run) (v : List ℕ) → list_all p run ≡ true → list_any (bytes_eq v) run ≡ true → p v ≡ true
one_of_all p [] v all some = absurd (true≢false (sym some))
one_of_all p (w ∷ run) v all some =
    one_of_all_at p v w (bytes_eq v w) (list_any (bytes_eq v) run) refl (and_parts (p w) (list_all p run) all).0 some (one_of_all p run v (and_parts (p w) (list_all p run) all).1)

range_all : (p : ℕ → Bool) (a n : ℕ) → ((k : ℕ) → k < n → p (a + k) ≡ true) → list_all p (range_with_len a n) ≡ true
range_all p a zero each = refl
range_all p a (suc n) each =
    let here : a + 0 ≡ a = omega arith in
    and_from (p a) (list_all p (range_with_len (a + 1) n)) (ap p (sym here) ∙ each 0 (omega arith))
    (range_all p (a + 1) n (λ k l. let there : a + (k + 1) ≡ a + 1 + k = omega arith in ap p (sym there) ∙ each (k + 1) (omega (arith, l))))

some_counted_at : (b rest : Bool) (n : ℕ) → 1 ≤ cond b 1 0 + n → (1 ≤ n → rest ≡ true) → (b || rest) ≡ true
some_counted_at true rest n h more = refl
some_counted_at false rest n h more = more (omega (arith, h))

some_counted : (p : Post → Bool) (posts : List Post) → 1 ≤ count_by p posts → list_any p posts ≡ true
some_counted p [] h = absurd (omega (arith, h))
some_counted p (r ∷ posts) h = some_counted_at (p r) (list_any p posts) (count_by p posts) (omega (arith, h, sum_by-cons (λ (q : Post). cond (p q) 1 0) r posts)) (some_counted p posts)

each_counted : (count : List ℕ → ℕ) (run : Run) → ((w : List ℕ) → list_any (bytes_eq w) run ≡ true → 1 ≤ count w) → length run ≤ sum_by count run
each_counted count [] one = omega arith
each_counted count (w ∷ run) one =
    let here : 1 ≤ count w = one w (or_left (bytes_eq w w) (list_any (bytes_eq w) run) (itself w)) in
    let rest = each_counted count run (λ v h. one v (or_right (bytes_eq v w) (list_any (bytes_eq v) run) h)) in
    omega (arith, here, rest, sum_by-cons count w run)

-- ---- kinds
facet_kind_at : (b : Bool) (x : ℕ) (w : List ℕ) → b ≡ is_filled (cond b (x ∷ w) [])
facet_kind_at true x w = grind (arith, nat_tests)
facet_kind_at false x w = refl

facet_kind : (w : List ℕ) → is_facet w ≡ is_filled (kind_of w)
facet_kind [] = refl
facet_kind (b ∷ w) = facet_kind_at (is_facet (b ∷ w)) b _

same_kind : (v w : List ℕ) → is_alike v w ≡ true → is_facet v ≡ is_facet w
same_kind v w h = facet_kind v ∙ ap is_filled ((bytes_eq-Decides (kind_of v) (kind_of w)).0 h) ∙ sym (facet_kind w)

-- ---- bounds
small_at : (docs : ℕ) (rs : List Post) (k : ℕ) → docs ≤ MAX_DOCS → AllByRecursion (λ p. p.doc < docs) rs → doc_or_zero (slice_get rs k) < 2 ^ 32
small_at docs [] k few h = omega arith
small_at docs (r ∷ rs) zero few h = omega (arith, few, h.0)
small_at docs (r ∷ rs) (suc k) few h = small_at docs rs k few h.1

least_small : (docs : ℕ) (rs : List Post) → docs ≤ MAX_DOCS → AllByRecursion (λ p. p.doc < docs) rs → least_of rs < 2 ^ 32
unfolding least_of
least_small docs rs few h = small_at docs rs 0 few h

greatest_small : (docs : ℕ) (rs : List Post) → docs ≤ MAX_DOCS → AllByRecursion (λ p. p.doc < docs) rs → greatest_of rs < 2 ^ 32
unfolding greatest_of
greatest_small docs rs few h = small_at docs rs (length rs - 1) few h

-- ---- a run
pub record RunFacts (weights : Weights) (ws : Run) (rows : List Row) (docs target lo : ℕ) (run : Run) : Type 0 where
  pub some : 1 ≤ length run
  pub fits : HeadFits ws (head_of lo run (block_of ws rows run))
  pub shaped : IsShaped (head_of lo run (block_of ws rows run)) (length (block_bytes (block_of ws rows run) lo))
  pub block : IsBlock weights (head_of lo run (block_of ws rows run)) docs (block_of ws rows run) (block_bytes (block_of ws rows run) lo)
  pub kinds : is_of_one_kind ws (head_of lo run (block_of ws rows run)) ≡ true
  pub sized : is_sized (head_of lo run (block_of ws rows run)) ≡ true
  pub full : has_rows (head_of lo run (block_of ws rows run), block_of ws rows run) ≡ true
  pub light : is_light target (length run) (length (block_of ws rows run)) ≡ true

-- what holds of the words and rows of a corpus
pub record AreRows (ws : Run) (rows : List Row) : Type 0 where
  pub up : IsStrictlySortedBy (slice_cmp nat_cmp) ws
  pub known : AllByRecursion (HasWord ws) rows
  pub spots : IsStrictlySortedBy by_spot rows
  pub present : (w : List ℕ) → list_any (bytes_eq w) ws ≡ true → list_any (λ r. bytes_eq w r.word) rows ≡ true

module _ (ws : Run) (rows : List Row) (up : IsStrictlySortedBy (slice_cmp nat_cmp) ws) (known : AllByRecursion (HasWord ws) rows) where
  pub first_word : (lo : ℕ) (run : Run) → IsAt ws lo run → 1 ≤ length run → word_at ws lo ≡ word_at run 0
  first_word lo run is some = let here : lo + 0 ≡ lo = omega arith in ap (word_at ws) (sym here) ∙ run_word ws lo run is 0 (omega (arith, some))

  number_at_place : (lo : ℕ) (run : Run) → IsAt ws lo run → (k : ℕ) → k < length run → word_number ws (word_at run k) ≡ lo + k
  number_at_place lo run is k l =
      ap (word_number ws) (sym (run_word ws lo run is k l)) ∙ number_of_word ws (lo + k) up (omega (arith, l, run_within ws lo run is))

  -- as many posts of a word as rows
  pub posts_of_word : (lo : ℕ) (run : Run) → IsAt ws lo run → (k : ℕ) → k < length run → count_by (λ post. post.word == lo + k) (block_of ws rows run) ≡ count_in rows (word_at run k)
  posts_of_word lo run is k l =
      let there : list_any (bytes_eq (word_at run k)) run ≡ true = in_run run k l in
      ap (λ n. count_by (λ post. post.word == n) (block_of ws rows run)) (sym (number_at_place lo run is k l))
      ∙ count_word ws run (word_at run k) rows (run_known ws lo run is (word_at run k) there) there known

  pub block_size : (lo : ℕ) (run : Run) → IsAt ws lo run → length (block_of ws rows run) ≡ rows_of_run (count_in rows) run
  block_size lo run is = length-map (filter (has run) rows) (post_of ws) ∙ count_run run (run_apart ws lo run is up) rows

module _ (ws : Run) (rows : List Row) (are : AreRows ws rows) where
  has_some : (lo : ℕ) (run : Run) → IsAt ws lo run → (w : List ℕ) → list_any (bytes_eq w) run ≡ true → 1 ≤ count_in rows w
  has_some lo run is w h = count_some w rows (are.present w (run_known ws lo run is w h))

  words_in : (lo : ℕ) (run : Run) → IsAt ws lo run → AllByRecursion (λ p. (lo ≤ p.word) × (p.word < lo + length run)) (block_of ws rows run)
  words_in lo run is =
      each_post ws (λ p. (lo ≤ p.word) × (p.word < lo + length run)) run
      (λ r h.
      let at : word_number ws r.word ≡ lo + word_number run r.word = run_number ws lo run is are.up r.word h in
      let below : word_number run r.word < length run = number_below run r.word h in
      (omega (arith, at), omega (arith, at, below))) rows

  of_kind : (lo : ℕ) (run : Run) → IsAt ws lo run → is_one_kind run ≡ true → AllByRecursion (λ p. is_facet (word_at ws p.word) ≡ is_facet (word_at run 0)) (block_of ws rows run)
  of_kind lo run is one =
      each_post ws (λ p. is_facet (word_at ws p.word) ≡ is_facet (word_at run 0)) run
      (λ r h. ap is_facet (word_of_number ws r.word (run_known ws lo run is r.word h)) ∙ sym (same_kind (word_at run 0) r.word (one_of_all (is_alike (word_at run 0)) run r.word one h))) rows

  own_words : (lo : ℕ) (run : Run) → IsAt ws lo run → take (length run) (drop lo ws) ≡ run
  own_words lo run is =
      ap (λ v. take (length run) (drop lo v)) is.split
      ∙ ap (take (length run)) (drop_at is.front (run ++ is.rest) lo is.at)
      ∙ take_at run is.rest (length run) refl

  all_rows : (lo : ℕ) (run : Run) → IsAt ws lo run → has_rows (head_of lo run (block_of ws rows run), block_of ws rows run) ≡ true
  all_rows lo run is =
      range_all (λ n. list_any (λ post. post.word == n) (block_of ws rows run)) lo (length run)
      (λ k l. some_counted (λ post. post.word == lo + k) (block_of ws rows run) (omega (arith, posts_of_word ws rows are.up are.known lo run is k l, has_some lo run is (word_at run k) (in_run run k l))))

  -- a block of few words can hold its posts
  pub run_writable : (lo : ℕ) (run : Run) → IsAt ws lo run → length run ≤ MAX_BLOCK_WORDS → AreWritable lo (block_of ws rows run)
  run_writable lo run is short = record {
    sorted = posts_ascend ws are.up (filter (has run) rows) (kept (HasWord ws) (has run) rows are.known) (IsStrictlySortedBy-filter by_spot (has run) rows are.spots);
    words = All-from_recursion (λ p. (lo ≤ p.word) × (p.word < lo + 2 ^ 16)) (block_of ws rows run) (all_then (λ p. (lo ≤ p.word) × (p.word < lo + length run)) (λ p. (lo ≤ p.word) × (p.word < lo + 2 ^ 16)) (λ p h. (h.0, omega (arith, h.1, short))) (block_of ws rows run) (words_in lo run is));
  }

  pub run_facts : (weights : Weights) (docs target lo : ℕ) (run : Run) → IsAt ws lo run → is_run target (count_in rows) run ≡ true → length ws ≤ MAX_WORDS → length (block_of ws rows run) ≤ MAX_ROWS → docs ≤ MAX_DOCS
      → AllByRecursion (λ p. p.doc < docs) (block_of ws rows run) → AllByRecursion (λ p. is_scored weights (is_facet (word_at ws p.word)) p ≡ true) (block_of ws rows run) → RunFacts weights ws rows docs target lo run
  run_facts weights docs target lo run is fit within few many docs_in scored =
      let posts : List Post = block_of ws rows run in
      let n : ℕ = length posts in
      let len : ℕ = length (block_bytes posts lo) in
      let count = count_in rows in
      let a = and_parts (is_filled run) (is_one_kind run && (nat_le (length run) MAX_BLOCK_WORDS && is_light target (length run) (rows_of_run count run))) fit in
      let b = and_parts (is_one_kind run) (nat_le (length run) MAX_BLOCK_WORDS && is_light target (length run) (rows_of_run count run)) a.1 in
      let c = and_parts (nat_le (length run) MAX_BLOCK_WORDS) (is_light target (length run) (rows_of_run count run)) b.1 in
      let some : 1 ≤ length run = filled (length run) a.0 in
      let short : length run ≤ MAX_BLOCK_WORDS = leb-true _ _ c.0 in
      let size : n ≡ rows_of_run count run = block_size ws rows are.up are.known lo run is in
      let more : length run ≤ n = omega (arith, size, each_counted count run (has_some lo run is)) in
      let bytes = block_len posts lo in
      let end : lo + length run ≤ MAX_WORDS = omega (arith, run_within ws lo run is, within) in
      let words = words_in lo run is in
      let can : AreWritable lo posts = run_writable lo run is short in
      let facet : Bool = is_facet (word_at run 0) in
      record {
        some = some;
        fits = record { lo = omega (arith, end); words = omega (arith, end); rows = omega (arith, few); len = omega (arith, few, bytes.1); least = least_small docs posts many docs_in; greatest = greatest_small docs posts many docs_in; facet = ap is_facet (sym (first_word ws rows are.up are.known lo run is some)) };
        shaped = record { size_is = refl; rows = more; least = bytes.0; most = bytes.1; words = end };
        block = record {
          count = refl;
          written = refl;
          writable = can;
          meets = meet_all weights (head_of lo run posts) docs posts docs_in (all_then (λ p. (lo ≤ p.word) × (p.word < lo + length run)) (λ p. p.word < lo + length run) (λ p h. h.1) posts words)
              (both_all (λ p. is_scored weights (is_facet (word_at ws p.word)) p ≡ true) (λ p. is_facet (word_at ws p.word) ≡ facet) (λ p. is_scored weights facet p ≡ true) (λ p s k. ap (λ f. is_scored weights f p) (sym k) ∙ s) posts scored (of_kind lo run is b.0)) can.sorted;
        };
        kinds = and_from (nat_le (length run) MAX_BLOCK_WORDS) _ c.0 (ap is_one_kind (own_words lo run is) ∙ b.0);
        sized = and_from (nat_le (length run) n) _ (le-leb _ _ more) (and_from (nat_le (8 * n) len) (nat_le len (12 * n)) (le-leb _ _ bytes.0) (le-leb _ _ bytes.1));
        full = all_rows lo run is;
        light = ap (is_light target (length run)) size ∙ c.1;
      }
    where
      filled : (n : ℕ) → nat_lt 0 n ≡ true → 1 ≤ n
      filled n h = grind (arith, nat_tests)

  closed_same : (target n : ℕ) (v v' w w' : List ℕ) (x x' y y' : ℕ) → v' ≡ v → w' ≡ w → x' ≡ x → y' ≡ y → (not (is_alike v w) || is_full target n (x + y)) ≡ true → (not (is_alike v' w') || is_full target n (x' + y')) ≡ true
  closed_same target n v v' w w' x x' y y' p q r s h = rw (p, q, r, s) h

  pub run_closed : (target lo to : ℕ) (run next : Run) → IsAt ws lo run → IsAt ws to next → 1 ≤ length run → 1 ≤ length next → is_ended target (count_in rows) (run, next) ≡ true
      → is_closed target ws (head_of lo run (block_of ws rows run), block_of ws rows run) (Some (head_of to next (block_of ws rows next), block_of ws rows next)) ≡ true
  run_closed target lo to run next is then one more ended =
      let here : to + 0 ≡ to = omega arith in
      closed_same target (length run) (word_at run 0) (word_at ws lo) (word_at next 0) (word_at ws to) (rows_of_run (count_in rows) run) (length (block_of ws rows run)) (count_in rows (word_at next 0)) (count_by (λ post. post.word == to) (block_of ws rows next))
      (first_word ws rows are.up are.known lo run is one) (first_word ws rows are.up are.known to next then more) (block_size ws rows are.up are.known lo run is)
      (ap (λ m. count_by (λ post. post.word == m) (block_of ws rows next)) (sym here) ∙ posts_of_word ws rows are.up are.known to next then 0 (omega (arith, more))) ended
