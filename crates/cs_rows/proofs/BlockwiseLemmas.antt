-- How many posts of a range of words there are, as the directory says.
--
--   whole_block, many_more, many_all      blocks that lie within the range have that many posts of it
use Rattle.std.proofs.Common.{◌≡◌, ℕ, suc, ◌+◌, ◌<◌, ◌≤◌, ◌&&◌, Bool, true, false, cond, List, [], ◌∷◌, length, get_or, replicate, refl, ap}
use Rattle.std.proofs.Common.{◌∙◌, arith, length-append}
use Rattle.std.specs.Prelude.{All, filter, nat_le, nat_lt}
use Rattle.std.specs.List.{AllByRecursion}
use Rattle.std.proofs.lemmas.Bool.{and_from, and_parts, leb-true}
use Rattle.std.proofs.lemmas.Bool.Decides.{nat_tests}
use Rattle.std.proofs.lemmas.List.{get_or-replicate}
use Rattle.std.proofs.lemmas.List.Elements.{recursion_from_All}
use Rattle.cs_base.specs.declared.content.doc.Post.{Post}
use Rattle.cs_base.specs.declared.index.block.BlockHead.{BlockHead}
use Rattle.cs_file.specs.Indexes.{IndexView, IsIndex, StandsFor, AreMet, block_posts}
use Rattle.cs_file.proofs.PostsLemmas.{block_docs, block_words}
use Rattle.cs_file.proofs.StoodLemmas.{stood_block, stood_count}
use Rattle.cs_model_index.specs.Sections.{image_of}
use Rattle.cs_model_kept.specs.declared.limits.TheConstants.{MAX_ENTRY_SIZE}
use Rattle.cs_tables.specs.WordCounts.{chosen, is_chosen}
use Rattle.cs_rows.specs.Blockwise.{rows_within}
use Rattle.cs_rows.specs.Counting.{counted_rows}
use Rattle.cs_rows.specs.IndexReading.{stock_of}
use Rattle.cs_rows.specs.Stocked.{is_between}
use Rattle.cs_rows.proofs.CountingLemmas.{all_listed, counted_long, flat_more}

-- ---- how many there are
every_one : (t : Post → Bool) (xs : List Post) → AllByRecursion (λ p. t p ≡ true) xs → length (filter t xs) ≡ length xs
every_one t [] h = refl
every_one t (x ∷ xs) h = ap (λ b. length (cond b (x ∷ filter t xs) (filter t xs))) h.0 ∙ ap suc (every_one t xs h.1)

passes : (docs lo hi from words : ℕ) (p : Post) → lo ≤ from → from + words ≤ hi → p.doc < docs → (from ≤ p.word) × (p.word < from + words)
    → is_chosen lo hi (replicate docs true) p ≡ true
passes docs lo hi from words p low high doc word =
    and_from _ _ (and_from _ _ (below (omega (arith, low, word.0))) (under (omega (arith, high, word.1)))) (get_or-replicate docs p.doc true false doc)
  where
    below : lo ≤ p.word → nat_le lo p.word ≡ true
    below le = grind (arith, nat_tests)

    under : p.word < hi → nat_lt p.word hi ≡ true
    under lt = grind (arith, nat_tests)

module _ (b : List ℕ) (i : IndexView) (stands : StandsFor b i) (is : IsIndex i) (lo hi : ℕ) where
  -- a block that lies within the range has all its posts there
  whole_block : (k : ℕ) (d : BlockHead) → k < length i.heads
      → rows_within lo hi (get_or i.heads k d) ≤ length (chosen lo hi (replicate i.docs true) (block_posts b k))
  whole_block k d lt =
      let h = get_or i.heads k d in
      let block = stood_block b i stands is k d lt in
      let t = is_chosen lo hi (replicate i.docs true) in
      let docs = block_docs h i.docs (block_posts b k) _ block in
      let words = block_words h i.docs (block_posts b k) _ block in
      elim (nat_le lo h.lo && nat_le (h.lo + h.words) hi)
      as (λ c. (nat_le lo h.lo && nat_le (h.lo + h.words) hi) ≡ c → cond c h.rows 0 ≤ length (filter t (block_posts b k))) [
        | true ↦ λ e.
            let both = and_parts (nat_le lo h.lo) (nat_le (h.lo + h.words) hi) e in
            let all : All (λ p. t p ≡ true) (block_posts b k) = λ j x l. passes i.docs lo hi h.lo h.words (get_or (block_posts b k) j x) (leb-true _ _ both.0)
            (leb-true _ _ both.1) (docs j x l) (words j x l) in
            let many = every_one t (block_posts b k) (recursion_from_All (λ p. t p ≡ true) (block_posts b k) all) in
            let count = block.count in
            omega (arith, many, count)
        | false ↦ λ e. omega arith
      ] refl

  pub many_more : (first k rows more : ℕ) (heads : List BlockHead) (d : BlockHead) → heads ≡ i.heads → first ≤ k → k < length i.heads
      → more ≡ rows_within lo hi (get_or heads k d) → rows ≤ length (counted_rows (image_of b).blocks first k lo hi (replicate i.docs true))
      → rows + more ≤ length (counted_rows (image_of b).blocks first (k + 1) lo hi (replicate i.docs true))
  many_more first k rows more heads d same le lt is_more h =
      let count = stood_count b i stands in
      let all = replicate i.docs true in
      let on = ap length (flat_more (chosen lo hi all) (image_of b).blocks first k le (omega (arith, lt, count)))
      ∙ length-append (counted_rows (image_of b).blocks first k lo hi all) (chosen lo hi all (block_posts b k)) in
      let here = whole_block k d lt in
      let own = is_more ∙ ap (λ hs. rows_within lo hi (get_or hs k d)) same in
      omega (arith, on, here, h, own)

  pub many_all : (first last rows : ℕ) → AreMet i.heads lo hi first last → MAX_ENTRY_SIZE < rows
      → rows ≤ length (counted_rows (image_of b).blocks first last lo hi (replicate i.docs true))
      → MAX_ENTRY_SIZE < length (filter (is_between lo hi) (stock_of b).posts)
  many_all first last rows met lt h =
      let all = replicate i.docs true in
      let long = counted_long b i stands is first last lo hi all met ∙ ap length (all_listed b i stands is lo hi) in
      omega (arith, lt, h, long)
