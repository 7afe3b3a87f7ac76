-- The scores of a block's rows, read from their column alone.
--
--   scores_all    the scores' column has those of all rows
use Rattle.std.proofs.Common.{◌≡◌, ℕ, zero, suc, ◌+◌, List, [], ◌∷◌, length, map, drop, Option, Some, None, refl, sym, ap, subst, ◌∙◌, arith}
use Rattle.cs_base.specs.declared.index.block.BlockHead.{BlockHead}
use Rattle.cs_base.specs.declared.content.doc.Post.{Post}
use Rattle.cs_base.specs.declared.content.scores.Weights.{Weights}
use Rattle.cs_model_index.specs.BlockRules.{BlockColumns, block_columns, block_items, doc_before, gap_len, gap_number, item_row, items_in, row_at, rows_read}
use Rattle.cs_block.specs.BlockScores.{HasScores}
use Rattle.cs_block.specs.RowRuns.{AreScores}

scores_along : (lo k : ℕ) (last : Option Post) (index at : ℕ) (gaps words positions ss : List ℕ) → length ss ≡ k
    → ss ≡ map (λ p. p.score) (map item_row (items_in lo k last index at gaps words positions ss))
unfolding items_in
scores_along lo zero last index at gaps words positions [] ls = refl
scores_along lo zero last index at gaps words positions (s ∷ ss) ls = absurd (omega (arith, ls))
scores_along lo (suc k) last index at gaps words positions [] ls = absurd (omega (arith, ls))
scores_along lo (suc k) last index at gaps words positions (s ∷ ss) ls =
    let row = row_at lo (doc_before last + gap_number gaps) words positions (s ∷ ss) in
    let next = at + gap_len gaps in
    let behind = drop (gap_len gaps) gaps in
    ap (λ xs. s ∷ xs) (scores_along lo k (Some row) (index + 1) next behind (drop 2 words) (drop 4 positions) ss (omega (arith, ls)))

column_scores : (head : BlockHead) (bytes : List ℕ) (c : BlockColumns) → c ≡ block_columns head bytes → length c.scores ≡ head.rows
    → c.scores ≡ map (λ p. p.score) (rows_read head bytes)
unfolding rows_read
column_scores head bytes c is ls =
    scores_along head.lo head.rows None 0 0 c.gaps c.words c.positions c.scores ls
    ∙ ap (λ x. map (λ (p : Post). p.score) (map item_row (block_items head x))) is

pub scores_all : (w : Weights) (head : BlockHead) (bytes : List ℕ) (c : BlockColumns) (ss : List ℕ) → c ≡ block_columns head bytes → length c.scores ≡ head.rows
    → ss ≡ c.scores → AreScores w head.facet c.scores → HasScores w head bytes ss
scores_all w head bytes c ss is ls same kind = record {
  scores_are = same ∙ column_scores head bytes c is ls;
  in_kind = subst (AreScores w head.facet) (sym same) kind;
}
