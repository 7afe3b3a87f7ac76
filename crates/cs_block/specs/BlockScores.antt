-- Reading the scores of a block's rows, without their documents, words and positions.
--
--   HasScores w head bytes scores      they are those of all rows, each of the block's kind in a collection of these weights
use Rattle.std.specs.Prelude.{◌≡◌, ℕ, List, map}
use Rattle.cs_base.specs.declared.index.block.BlockHead.{BlockHead}
use Rattle.cs_base.specs.declared.content.scores.Weights.{Weights}
use Rattle.cs_model_index.specs.BlockRules.{rows_read}
use Rattle.cs_block.specs.RowRuns.{AreScores}

-- the rows are those that are read of any bytes
pub record HasScores (w : Weights) (head : BlockHead) (bytes scores : List ℕ) : Type 0 where
  pub scores_are : scores ≡ map (λ p. p.score) (rows_read head bytes)
  pub in_kind : AreScores w head.facet scores
