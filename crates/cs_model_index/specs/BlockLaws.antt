-- What holds of the bytes of all blocks, where they are as many as the head says.
--
-- Source: this engine's own. These statements are promised where blocks are written and read, by the contract of a law there.
--
--   AcceptedAreBlocks   no rule is broken exactly where the bytes are the block of some rows
--   OneReading          the block of rows breaks no rule, and these rows are read of it
use Rattle.std.specs.Prelude.{◌≡◌, ◌↔◌, ℕ, ◌<◌, ◌^◌, List, length, All, None}
use Rattle.cs_base.specs.declared.index.block.BlockHead.{BlockHead}
use Rattle.cs_base.specs.declared.content.doc.Post.{Post}
use Rattle.cs_base.specs.declared.content.scores.Weights.{Weights}
use Rattle.cs_model.specs.Weights.{AreWeights}
use Rattle.cs_model_index.specs.Blocks.{IsShaped}
use Rattle.cs_model_index.specs.BlockRules.{judged, rows_read, IsBlock}

-- of a head of no rows it is the block of no rows, which has no bytes
abbrev pub AcceptedAreBlocks : Type 0
AcceptedAreBlocks = (w : Weights) → AreWeights w → (head : BlockHead) (docs : ℕ) (bytes : List ℕ) → docs < 2 ^ 32 → All (λ b. b < 256) bytes → IsShaped head (length bytes) → (judged w head docs bytes ≡ None) ↔ ((rs : List Post) × IsBlock w head docs rs bytes)

-- so no bytes are the block of two lists of rows; each number of such rows has room in its bytes
abbrev pub OneReading : Type 0
OneReading = (w : Weights) → AreWeights w → (head : BlockHead) (docs : ℕ) (rs : List Post) (bytes : List ℕ) → docs < 2 ^ 32 → IsShaped head (length bytes) → IsBlock w head docs rs bytes → (judged w head docs bytes ≡ None) × (rows_read head bytes ≡ rs)
