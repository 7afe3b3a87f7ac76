-- Reading those rows of a block that are sought: of some words, in listed documents.
--
--   is_sought lo hi listed p      the word of a row is one of these, and its document is listed
--   row_with head c ds i, rows_with head c ds     row i of columns, where ds are the documents; all rows
--   AreDocsOf head bytes ds       the documents of all rows of a block
--   CanBeSought head c ds listed      columns of a block, whose documents are those of its rows, each listed or not
--   IsOfBlock w head p      a row of the block's words and of its kind in a collection of these weights
--   passes whole lo hi listed p      a row is sought, where the words of a block that is whole are taken for these
--   HasSought w head bytes lo hi listed rows      they are those of all rows that are sought, each of the block's kind
use Rattle.std.specs.Prelude.{◌≡◌, ℕ, ◌+◌, ◌*◌, ◌<◌, ◌≤◌, ◌&&◌, Bool, true, false, nat_le, nat_lt, List, length, map, filter, drop, slice_index_or}
use Rattle.std.specs.Prelude.{if◌then◌else◌}
use Rattle.std.specs.List.{All, range_with_len}
use Rattle.cs_base.specs.declared.content.doc.Post.{Post}
use Rattle.cs_base.specs.declared.content.scores.Weights.{Weights}
use Rattle.cs_base.specs.declared.content.limits.TheConstants.{MAX_WORDS}
use Rattle.cs_base.specs.declared.index.block.BlockHead.{BlockHead}
use Rattle.cs_model_index.specs.BlockRules.{BlockColumns, block_columns, is_scored, row_at, rows_read}
use Rattle.cs_block.specs.BlockReading.{HasColumns}

-- a document behind the last of the list isn't listed
abbrev pub is_sought : ℕ → ℕ → List Bool → Post → Bool
is_sought lo hi listed p = (nat_le lo p.word && nat_lt p.word hi) && slice_index_or listed p.doc false

-- document 0 where there is none of that number
abbrev pub row_with : BlockHead → BlockColumns → List ℕ → ℕ → Post
row_with head c ds i = row_at head.lo (slice_index_or ds i 0) (drop (2 * i) c.words) (drop (4 * i) c.positions) (drop i c.scores)

-- one for each document
abbrev pub rows_with : BlockHead → BlockColumns → List ℕ → List Post
rows_with head c ds = map (row_with head c ds) (range_with_len 0 (length ds))

-- those of the rows that are read of any bytes
pub record AreDocsOf (head : BlockHead) (bytes ds : List ℕ) : Type 0 where
  pub long : length ds ≡ head.rows
  pub rows : rows_with head (block_columns head bytes) ds ≡ rows_read head bytes

-- also of no rows
pub record CanBeSought (head : BlockHead) (c : BlockColumns) (ds : List ℕ) (listed : List Bool) : Type 0 where
  pub words : head.lo + head.words ≤ MAX_WORDS
  pub sized : HasColumns head c
  pub long : length ds ≡ head.rows
  pub known : All (λ d. d < length listed) ds

-- what rules 15 and 16 say
pub record IsOfBlock (w : Weights) (head : BlockHead) (p : Post) : Type 0 where
  pub word : p.word < head.lo + head.words
  pub scored : is_scored w head.facet p ≡ true

-- of a block that isn't whole it is the test itself
abbrev pub passes : Bool → ℕ → ℕ → List Bool → Post → Bool
passes whole lo hi listed p = if whole then slice_index_or listed p.doc false else is_sought lo hi listed p

-- the rows are those that are read of any bytes
pub record HasSought (w : Weights) (head : BlockHead) (bytes : List ℕ) (lo hi : ℕ) (listed : List Bool) (rows : List Post) : Type 0 where
  pub are : rows ≡ filter (is_sought lo hi listed) (rows_read head bytes)
  pub scored : All (λ p. is_scored w head.facet p ≡ true) rows
