-- Which images can be written.
--
-- Source: this engine's own.
--
--   BlockFits p        the posts of a block can be written, and they have as many bytes as its head says
--   CanBeWritten i     the image is within the limits of files, and each block goes with its head
use Rattle.std.specs.Prelude.{◌≡◌, ◌^◌, ◌<◌, ◌≤◌, List, length, All}
use Rattle.std.specs.List.{sum_by, zip}
use Rattle.cs_base.specs.declared.content.limits.TheConstants.{MAX_DOCS, MAX_WORDS, MAX_ROWS}
use Rattle.cs_base.specs.declared.index.block.BlockHead.{BlockHead}
use Rattle.cs_base.specs.declared.content.doc.Post.{Post}
use Rattle.cs_model_index.specs.Blocks.{AreWritable, block_bytes}
use Rattle.cs_model_index.specs.Images.{Image}
use Rattle.cs_model_index.specs.Layout.{title_bytes, blocks_bytes}
use Rattle.cs_model_index.specs.declared.limits.TheConstants.{MAX_TARGET}

-- the head's length is 0 for a block of no posts
pub record BlockFits (p : BlockHead × List Post) : Type 0 where
  pub writable : AreWritable p.0.lo p.1
  pub len : p.0.len ≡ length (block_bytes p.1 p.0.lo)

-- within the limits of collections, with titles and blocks of fewer than 2^32 bytes each, and a head for each block whose rows it can hold
pub record CanBeWritten (i : Image) : Type 0 where
  pub few_docs : length i.titles ≤ MAX_DOCS
  pub few_bytes : length (title_bytes i.titles) < 2 ^ 32
  pub few_words : length i.words ≤ MAX_WORDS
  pub few_blocks : length i.blocks ≤ length i.words
  pub one_each : length i.heads ≡ length i.blocks
  pub few_rows : sum_by (λ block. length block) i.blocks ≤ MAX_ROWS
  pub few_block_bytes : length (blocks_bytes i.heads i.blocks) < 2 ^ 32
  pub blocks : All BlockFits (zip i.heads i.blocks)
  pub target : i.target ≤ MAX_TARGET
