-- How much the image of a corpus has: its words, and as many posts as the corpus has rows.
--
--   words_are       the words of the image are those of the rows, each once
--   posts_few       all blocks together have at most as many posts as there are rows
--   posts_from      what holds of the post of each row holds of each post
--   blocks_hold     each block can hold its posts
--   blocks_few      there are at most as many blocks as words, each with a head
--   title_there     a document whose number has a title is one of them
use Rattle.std.proofs.Common.{◌≡◌, ℕ, ◌+◌, ◌<◌, ◌≤◌, ◌&&◌, Bool, true, false, true≢false, cond, List, [], ◌∷◌, ◌++◌, length, map, refl, sym, ap, subst, ◌∙◌, arith, append_assoc, length-append}
use Rattle.std.specs.Prelude.{Some, filter, flat_map, nat_le}
use Rattle.std.specs.List.{AllByRecursion, list_all, sum_by, zip, enumerate_from}
use Rattle.std.specs.Option.{is_some}
use Rattle.std.specs.Ordering.{nat_cmp, eq_by_cmp}
use Rattle.std.specs.FinMap.{find, contains_key, get-from_entries}
use Rattle.std.proofs.lemmas.Bool.{and_parts, leb-true}
use Rattle.std.proofs.lemmas.Bool.Decides.{nat_tests}
use Rattle.std.proofs.lemmas.Cmp.{nat_cmp_total}
use Rattle.std.proofs.lemmas.List.Sums.{sum_by-append, sum_by-cons}
use Rattle.cs_base.specs.declared.content.doc.Post.{Post}
use Rattle.cs_base.specs.declared.content.doc.Row.{Row}
use Rattle.cs_base.specs.declared.content.scores.Weights.{Weights}
use Rattle.cs_model.specs.Corpus.{Corpus, IsCorpus, by_number, distinct_words}
use Rattle.cs_model.specs.Words.{is_filled}
use Rattle.cs_model_index.specs.Blocks.{AreWritable}
use Rattle.cs_model_index.specs.Images.{Image, IsImage, block_of, count_in, heads_from, image_posts}
use Rattle.cs_model_index.specs.Numbered.{post_of, numbered, HasWord}
use Rattle.cs_model_index.specs.Partitions.{is_light, is_one_kind, is_run, rows_of_run}
use Rattle.cs_model_index.specs.declared.limits.TheConstants.{MAX_BLOCK_WORDS}
use Rattle.cs_model_index.proofs.ImageLimits.{corpus_rows}
use Rattle.cs_model_index.proofs.RunBlocks.{AreRows, block_size, run_writable}
use Rattle.cs_model_index.proofs.RunRows.{Run, IsAt, apart_sorted, count_run, has}
use Rattle.cs_model_index.proofs.Listings.{all_both}

abbrev joined : List Run → Run
joined runs = flat_map (λ run. run) runs

-- ---- runs
run_short : (target : ℕ) (rows : List Row) (run : Run) → is_run target (count_in rows) run ≡ true → (1 ≤ length run) × (length run ≤ MAX_BLOCK_WORDS)
run_short target rows run h =
    let count = count_in rows in
    let a = and_parts (is_filled run) (is_one_kind run && (nat_le (length run) MAX_BLOCK_WORDS && is_light target (length run) (rows_of_run count run))) h in
    let b = and_parts (is_one_kind run) (nat_le (length run) MAX_BLOCK_WORDS && is_light target (length run) (rows_of_run count run)) a.1 in
    let c = and_parts (nat_le (length run) MAX_BLOCK_WORDS) (is_light target (length run) (rows_of_run count run)) b.1 in
    (filled run a.0, leb-true _ _ c.0)
  where
    filled : (run : Run) → is_filled run ≡ true → 1 ≤ length run
    filled run h = grind (arith, nat_tests)

module _ (ws : Run) (rows : List Row) (are : AreRows ws rows) where
  abbrev blocks : List Run → List (List Post)
  blocks runs = map (block_of ws rows) runs

  posts_sum : (front : Run) (lo : ℕ) (runs : List Run) → ws ≡ front ++ joined runs → length front ≡ lo → sum_by (λ block. length block) (blocks runs) ≡ sum_by (count_in rows) (joined runs)
  posts_sum front lo [] split at = refl
  posts_sum front lo (run ∷ runs) split at =
      let is : IsAt ws lo run = record { front = front; rest = joined runs; split = split; at = at } in
      sum_by-cons (λ (block : List Post). length block) (block_of ws rows run) (blocks runs)
      ∙ ap (λ n. n + sum_by (λ block. length block) (blocks runs)) (block_size ws rows are.up are.known lo run is)
      ∙ ap (λ n. rows_of_run (count_in rows) run + n) (posts_sum (front ++ run) (lo + length run) runs (split ∙ sym (append_assoc front run (joined runs))) (omega (arith, at, length-append front run)))
      ∙ sym (sum_by-append (count_in rows) run (joined runs))

  kept_at : (b : Bool) (r : Row) (f g : List Row) → length f ≤ length g → length (cond b (r ∷ f) f) ≤ length (r ∷ g)
  kept_at true r f g h = omega (arith, h)
  kept_at false r f g h = omega (arith, h)

  kept_few : (p : Row → Bool) (rs : List Row) → length (filter p rs) ≤ length rs
  kept_few p [] = omega arith
  kept_few p (r ∷ rs) = kept_at (p r) r (filter p rs) rs (kept_few p rs)

  sum_few : (runs : List Run) → ws ≡ joined runs → sum_by (λ block. length block) (blocks runs) ≤ length rows
  sum_few runs split =
      let all : length (filter (has ws) rows) ≡ sum_by (count_in rows) ws = count_run ws (apart_sorted ws are.up) rows in
      omega (arith, posts_sum [] 0 runs split refl, ap (sum_by (count_in rows)) split, all, kept_few (has ws) rows)

  hold_from : (target : ℕ) (front : Run) (lo : ℕ) (runs : List Run) → ws ≡ front ++ joined runs → length front ≡ lo → list_all (is_run target (count_in rows)) runs ≡ true → AllByRecursion (λ p. AreWritable p.0.lo p.1) (zip (heads_from lo (zip runs (blocks runs))) (blocks runs))
  unfolding heads_from
  hold_from target front lo [] split at each = tt
  hold_from target front lo (run ∷ runs) split at each =
      let is : IsAt ws lo run = record { front = front; rest = joined runs; split = split; at = at } in
      let e = and_parts (is_run target (count_in rows) run) (list_all (is_run target (count_in rows)) runs) each in (
        run_writable ws rows are lo run is (run_short target rows run e.0).1,
        hold_from target (front ++ run) (lo + length run) runs (split ∙ sym (append_assoc front run (joined runs))) (omega (arith, at, length-append front run)) e.1,
      )

  heads_few : (target lo : ℕ) (runs : List Run) → list_all (is_run target (count_in rows)) runs ≡ true → (length (blocks runs) ≤ length (joined runs)) × (length (heads_from lo (zip runs (blocks runs))) ≡ length (blocks runs))
  unfolding heads_from
  heads_few target lo [] each = (omega arith, refl)
  heads_few target lo (run ∷ runs) each =
      let e = and_parts (is_run target (count_in rows) run) (list_all (is_run target (count_in rows)) runs) each in
      let rest = heads_few target (lo + length run) runs e.1 in
      let one = (run_short target rows run e.0).0 in
      (omega (arith, rest.0, one, length-append run (joined runs)), omega (arith, rest.1))

  -- ---- posts
  post_at : (b : Bool) (P : Post → Type 0) (r : Row) (f : List Row) → P (post_of ws r) → AllByRecursion P (numbered ws f) → AllByRecursion P (numbered ws (cond b (r ∷ f) f))
  post_at true P r f h k = (h, k)
  post_at false P r f h k = k

  block_posts : (Q : Row → Type 0) (P : Post → Type 0) → ((r : Row) → HasWord ws r → Q r → P (post_of ws r)) → (run : Run) (rs : List Row) → AllByRecursion (HasWord ws) rs → AllByRecursion Q rs → AllByRecursion P (numbered ws (filter (has run) rs))
  block_posts Q P one run [] w h = tt
  block_posts Q P one run (r ∷ rs) w h = post_at (has run r) P r (filter (has run) rs) (one r w.0 h.0) (block_posts Q P one run rs w.1 h.1)

  posts_all : (Q : Row → Type 0) (P : Post → Type 0) → ((r : Row) → HasWord ws r → Q r → P (post_of ws r)) → (runs : List Run) → AllByRecursion Q rows → AllByRecursion P (flat_map (λ block. block) (blocks runs))
  posts_all Q P one [] h = tt
  posts_all Q P one (run ∷ runs) h = all_both P (block_of ws rows run) (flat_map (λ block. block) (blocks runs)) (block_posts Q P one run rows are.known h) (posts_all Q P one runs h)

-- ---- the image of a corpus
module _ (k : Corpus) (target : ℕ) (weights : Weights) (i : Image) (is : IsCorpus k) (image : IsImage k target weights i) where
  pub words_are : i.words ≡ distinct_words k.rows
  words_are = ap (λ (j : Image). j.words) image.made ∙ image.parted.joined

  are_rows : AreRows (joined image.runs) k.rows
  are_rows = corpus_rows k (joined image.runs) is image.parted.joined

  pub posts_few : sum_by (λ block. length block) i.blocks ≤ length k.rows
  posts_few = subst (λ (j : Image). sum_by (λ block. length block) j.blocks ≤ length k.rows) (sym image.made) (sum_few (joined image.runs) k.rows are_rows image.runs refl)

  pub posts_from : (Q : Row → Type 0) (P : Post → Type 0) → ((r : Row) → HasWord i.words r → Q r → P (post_of i.words r)) → AllByRecursion Q k.rows → AllByRecursion P (image_posts i)
  posts_from Q P one h =
      subst (λ (j : Image). ((r : Row) → HasWord j.words r → Q r → P (post_of j.words r)) → AllByRecursion P (image_posts j)) (sym image.made)
      (λ each. posts_all (joined image.runs) k.rows are_rows Q P each image.runs h) one

  pub blocks_hold : AllByRecursion (λ p. AreWritable p.0.lo p.1) (zip i.heads i.blocks)
  blocks_hold =
      subst (λ (j : Image). AllByRecursion (λ p. AreWritable p.0.lo p.1) (zip j.heads j.blocks)) (sym image.made)
      (hold_from (joined image.runs) k.rows are_rows target [] 0 image.runs refl refl image.parted.each)

  pub blocks_few : (length i.blocks ≤ length i.words) × (length i.heads ≡ length i.blocks)
  blocks_few =
      subst (λ (j : Image). (length j.blocks ≤ length j.words) × (length j.heads ≡ length j.blocks)) (sym image.made)
      (heads_few (joined image.runs) k.rows are_rows target 0 image.runs image.parted.each)

-- ---- titles
same_number : (d n : ℕ) → eq_by_cmp nat_cmp d n ≡ true → d ≡ n
same_number d n h = grind (arith, nat_tests)

found_below : (d n : ℕ) (ts : List (List ℕ)) → is_some (find nat_cmp d (enumerate_from n ts)) ≡ true → d < n + length ts
found_below d n [] h = absurd (true≢false (sym h))
found_below d n (t ∷ ts) h =
    elim (eq_by_cmp nat_cmp d n) as (λ b. eq_by_cmp nat_cmp d n ≡ b → is_some (cond b (Some t) (find nat_cmp d (enumerate_from (n + 1) ts))) ≡ true → d < n + length (t ∷ ts)) [
      | true ↦ λ e f. omega (arith, same_number d n e)
      | false ↦ λ e f. omega (arith, found_below d (n + 1) ts f)
    ] refl h

pub title_there : (ts : List (List ℕ)) (d : ℕ) → contains_key (by_number ts) d ≡ true → d < length ts
title_there ts d h = let below = found_below d 0 ts (sym (ap is_some (get-from_entries nat_cmp_total (enumerate_from 0 ts) d)) ∙ h) in omega (arith, below)
