-- The image that is put together of runs, blocks and heads is that of the corpus.
--
--   Assembled        the runs of a corpus's words
--   spans_kept, few_kept, counted_kept, inside_kept, rows_kept     what filling the blocks and listing the heads ask of them
--   image_made       the image
use Rattle.std.proofs.Common.{◌≡◌, ℕ, ◌<◌, ◌≤◌, List, [], ◌∷◌, ◌++◌, length, map, refl, sym, ◌∙◌, ap, subst, arith, get_or, drop}
use Rattle.std.specs.Prelude.{filter, flat_map}
use Rattle.std.specs.List.{AllByRecursion, zip}
use Rattle.std.specs.List.Sorted.{IsStrictlySortedBy}
use Rattle.std.specs.Ordering.{nat_cmp}
use Rattle.std.specs.Cmp.Lexicographic.{slice_cmp}
use Rattle.std.proofs.lemmas.List.{length-map}
use Rattle.std.proofs.lemmas.List.Sums.{length-filter, count_by-le-length}
use Rattle.cs_base.specs.declared.index.block.BlockHead.{BlockHead}
use Rattle.cs_base.specs.declared.content.doc.Post.{Post}
use Rattle.cs_base.specs.declared.content.doc.Row.{Row}
use Rattle.cs_base.specs.declared.content.scores.Weights.{Weights}
use Rattle.cs_base.proofs.MembersLemmas.{listing-rises}
use Rattle.cs_cols.specs.declared.cols.Cols.{Cols}
use Rattle.cs_model.specs.Corpus.{distinct_words}
use Rattle.cs_model_index.specs.Images.{Image, IsImage, count_in, block_of, heads_from}
use Rattle.cs_model_index.specs.Partitions.{IsPartition}
use Rattle.cs_model_index.specs.Numbered.{numbered, post_of, HasWord}
use Rattle.cs_model_index.proofs.CorpusLemmas.{known_words}
use Rattle.cs_build.specs.Building.{corpus_of_rows}
use Rattle.cs_build.specs.WordRuns.{AreParted, AreSpans, CountsRows, runs_from, is_within, run_head}
use Rattle.cs_build.specs.declared.parting.Run.{Run}
use Rattle.cs_build.proofs.PartLemmas.{blocks_are, rows_counted, heads_are, all_inside, spans_are, few_runs, filled_parts, some_words}

few_each : (ps : List Post) (most : ℕ) (bs : List Cols) (rs : List Run) → map (λ b. b.posts) bs ≡ map (λ run. filter (is_within run) ps) rs → length ps ≤ most → AllByRecursion (λ b. length b.posts ≤ most) bs
few_each ps most [] rs e few = tt
few_each ps most (c ∷ bs) [] e few = absurd (omega (arith, ap length e))
few_each ps most (c ∷ bs) (r ∷ rs) e few =
    let first : c.posts ≡ filter (is_within r) ps = ap (λ (l : List (List Post)). get_or l 0 []) e in
    (omega (arith, ap length first, length-filter (is_within r) ps, count_by-le-length (is_within r) ps, few), few_each ps most bs rs (ap (drop 1) e) few)

same_image : (titles ws vs : List (List ℕ)) (hs gs : List BlockHead) (bs cs : List (List Post)) (target : ℕ) (w : Weights) → ws ≡ vs → hs ≡ gs → bs ≡ cs
    → let i : Image = record { titles = titles; words = ws; heads = hs; blocks = bs; target = target; weights = w } in let j : Image = record { titles = titles; words = vs; heads = gs; blocks = cs; target = target; weights = w } in i ≡ j
same_image titles ws vs hs gs bs cs target w a b c = rw (a, b, c) refl

module _ (ws : List (List ℕ)) (rows : List Row) (posts : List Post) (target : ℕ) (runs : List Run) (is : ws ≡ distinct_words rows) (ps : numbered ws rows ≡ posts) (p : AreParted target ws (count_in rows) runs) where
  up : IsStrictlySortedBy (slice_cmp nat_cmp) ws
  up = subst (IsStrictlySortedBy (slice_cmp nat_cmp)) (sym is) (listing-rises (slice_cmp nat_cmp) (map (λ r. r.word) rows))

  known : AllByRecursion (HasWord ws) rows
  known = subst (λ x. AllByRecursion (HasWord x) rows) (sym is) (known_words rows)

  whole : ws ≡ [] ++ flat_map (λ part. part) p.parts
  whole = sym p.partition.joined

  some : AllByRecursion (λ part. 1 ≤ length part) p.parts
  some = some_words p.parts (filled_parts target (count_in rows) p.parts p.partition.each)

  pub spans_kept : (words : ℕ) → words ≡ length ws → AreSpans 0 runs words
  spans_kept words e = subst (λ rs. AreSpans 0 rs words) (sym p.are) (subst (AreSpans 0 (runs_from (count_in rows) 0 p.parts)) (omega (arith, e, ap length whole)) (spans_are (count_in rows) 0 p.parts))

  pub few_kept : length runs ≤ length ws
  few_kept = omega (arith, ap length p.are, few_runs (count_in rows) 0 p.parts some, ap length whole)

  pub counted_kept : AllByRecursion (CountsRows posts) runs
  counted_kept = subst (λ rs. AllByRecursion (CountsRows posts) rs) (sym p.are)
      (subst (λ qs. AllByRecursion (CountsRows qs) (runs_from (count_in rows) 0 p.parts)) ps (rows_counted ws up rows known [] p.parts 0 refl whole))

  pub inside_kept : AllByRecursion (λ run. run.lo < length ws) runs
  inside_kept = subst (AllByRecursion (λ run. run.lo < length ws)) (sym p.are) (all_inside ws up rows known [] p.parts 0 refl some whole)

  module _ (blocks : List Cols) (b : map (λ b. b.posts) blocks ≡ map (λ run. filter (is_within run) posts) runs) where
    pub blocks_made : map (λ (b : Cols). b.posts) blocks ≡ map (block_of ws rows) p.parts
    blocks_made =
        b ∙ ap (λ qs. map (λ run. filter (is_within run) qs) runs) (sym ps)
        ∙ ap (map (λ run. filter (is_within run) (numbered ws rows))) p.are ∙ blocks_are ws up rows known [] p.parts 0 refl whole

    pub as_many : length runs ≡ length blocks
    as_many = sym (sym (length-map blocks (λ (b : Cols). b.posts)) ∙ ap length b ∙ length-map runs (λ run. filter (is_within run) posts))

    pub rows_kept : (most : ℕ) → length rows ≤ most → AllByRecursion (λ b. length b.posts ≤ most) blocks
    rows_kept most few = few_each posts most blocks runs b (omega (arith, ap length ps, length-map rows (post_of ws), few))

    pub image_made : (heads : List BlockHead) (titles : List (List ℕ)) (w : Weights) → heads ≡ map (run_head ws) (zip runs (map (λ b. b.posts) blocks))
        → let i : Image = record { titles = titles; words = ws; heads = heads; blocks = map (λ b. b.posts) blocks; target = target; weights = w } in IsImage (corpus_of_rows titles rows) target w i
    image_made heads titles w h =
        let held = map (λ (b : Cols). b.posts) blocks in
        let joined = p.partition.joined in
        let blocks_are : held ≡ map (block_of (flat_map (λ part. part) p.parts) rows) p.parts = blocks_made ∙ ap (λ (x : List (List ℕ)). map (block_of x rows) p.parts) (sym joined) in
        let listed : heads ≡ heads_from 0 (zip p.parts (map (block_of (flat_map (λ part. part) p.parts) rows) p.parts)) =
        h ∙ ap (λ (x : List Run). map (run_head ws) (zip x held)) p.are ∙ ap (λ (x : List (List Post)). map (run_head ws) (zip (runs_from (count_in rows) 0 p.parts) x)) blocks_made
        ∙ heads_are ws up rows known [] p.parts 0 refl some whole ∙ ap (λ (x : List (List ℕ)). heads_from 0 (zip p.parts (map (block_of x rows) p.parts))) (sym joined) in
        record {
          titles = refl;
          runs = p.parts;
          parted = subst (λ x. IsPartition target (count_in rows) x p.parts) is p.partition;
          made = same_image titles ws _ heads _ held _ target w (sym joined) listed blocks_are;
        }
