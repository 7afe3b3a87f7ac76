-- The law of blocks in the form in which the law of files uses it.
--
--   BlocksAreRead, blocks_are_read     a block that breaks no rule is that of the posts that are read of it
use Rattle.std.proofs.Common.{◌≡◌, ℕ, ◌<◌, ◌^◌, List, length, None, subst, sym}
use Rattle.std.specs.Prelude.{All}
use Rattle.cs_base.specs.declared.index.block.BlockHead.{BlockHead}
use Rattle.cs_base.specs.declared.content.scores.Weights.{Weights}
use Rattle.cs_model.specs.Weights.{AreWeights}
use Rattle.cs_model_index.specs.BlockLaws.{AcceptedAreBlocks, OneReading}
use Rattle.cs_model_index.specs.BlockRules.{judged, rows_read, IsBlock}
use Rattle.cs_model_index.specs.Blocks.{IsShaped}

abbrev pub BlocksAreRead : Type 0
BlocksAreRead = (weights : Weights) → AreWeights weights → (head : BlockHead) (docs : ℕ) (bytes : List ℕ) → docs < 2 ^ 32 → All (λ x. x < 256) bytes → IsShaped head (length bytes) → judged weights head docs bytes ≡ None → IsBlock weights head docs (rows_read head bytes) bytes

pub blocks_are_read : AcceptedAreBlocks → OneReading → BlocksAreRead
blocks_are_read accepted one weights fine head docs bytes few small shaped e =
    let block = (accepted weights fine head docs bytes few small shaped).0 e in
    subst (λ rs. IsBlock weights head docs rs bytes) (sym (one weights fine head docs block.0 bytes few shaped block.1).1) block.1
