-- What was read of a block.
--
-- Source: this engine's own.
--
--   read_size r       the bytes of a block that was read, and those of its documents' numbers
--   IsReadAs head r   what was read is a block of this head, with the documents of all its posts
--   IsListedAs k placed bytes r     these bytes are what was read of block k, and where it has its number the documents are listed
--   FitsBlock i r     what was read is the block of its number, as far as the directory says
--   HasFileBytes b r      its bytes are those of a file at its place
use Rattle.std.specs.Prelude.{◌≡◌, ℕ, ◌+◌, ◌*◌, ◌<◌, List, length, slice_index_or, IfSome}
use Rattle.std.specs.List.{All}
use Rattle.cs_base.specs.declared.index.block.BlockHead.{BlockHead}
use Rattle.cs_base.specs.outside.Outside.{part}
use Rattle.cs_block.specs.Sought.{AreDocsOf}
use Rattle.cs_model_index.specs.Blocks.{IsShaped}
use Rattle.cs_file.specs.Indexes.{IndexView, block_place}
use Rattle.cs_file.specs.declared.fetching.PlacedBlock.{PlacedBlock}
use Rattle.cs_file.specs.declared.read_block.ReadBlock.{ReadBlock}
use Rattle.cs_file.specs.declared.read_block.TheConstants.{DOC_BYTES}

-- 0 of no block
abbrev pub read_size : ReadBlock → ℕ
read_size r = length r.bytes.items + DOC_BYTES * length r.docs.items

-- whatever bytes are there
pub record IsReadAs (head : BlockHead) (r : ReadBlock) : Type 0 where
  pub shaped : IsShaped head (length r.bytes.items)
  pub docs : AreDocsOf head r.bytes.items r.docs.items
  pub below : All (λ d. d < r.below) r.docs.items

-- without a number where a document can't be listed
abbrev pub IsListedAs : ℕ → PlacedBlock → List ℕ → ReadBlock → Type 0
IsListedAs k placed bytes r = (r.bytes.items ≡ bytes) × IfSome r.number (λ n. (n ≡ k) × (r.at ≡ placed.at) × IsReadAs placed.head r)

-- whatever store it was read from; so does no block
abbrev pub FitsBlock : IndexView → ReadBlock → Type 0
FitsBlock i r = IfSome r.number (λ k. (k < length i.heads) × (r.at ≡ block_place i k) × ((d : BlockHead) → IsReadAs (slice_index_or i.heads k d) r))

-- so are those of no block
abbrev pub HasFileBytes : List ℕ → ReadBlock → Type 0
HasFileBytes b r = IfSome r.number (λ k. r.bytes.items ≡ part b r.at (length r.bytes.items))
