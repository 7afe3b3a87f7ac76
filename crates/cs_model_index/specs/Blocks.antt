-- The bytes of a block, by its rows: four columns, one behind the other.
--
--   gap_column before rs   for each row the gap code of its document less that of the row before, the first less `before`
--   word_column lo rs      for each row two bytes: the number of its word less lo
--   position_column rs     for each row four bytes: its position
--   score_column rs        for each row one byte: its score
--   block_bytes rs lo      the columns of rows whose words are numbered from lo on; of no rows no bytes
--   AreWritable lo rs      rows in order whose words have a number of two bytes from lo on, so that a block can hold them
--   IsShaped head size     a block's head that goes with so many bytes, as each does that the rules of the directory let pass
--
-- Numbers of more than one byte have their high byte first.
use Rattle.std.specs.Prelude.{◌≡◌, ℕ, ◌+◌, ◌-◌, ◌*◌, ◌^◌, ◌<◌, ◌≤◌, List, [], ◌∷◌, ◌++◌, map, flat_map, All}
use Rattle.std.specs.Int.{w16, w32, to_be_bytes}
use Rattle.std.specs.List.Sorted.{IsStrictlySortedBy}
use Rattle.cs_base.specs.index.GapCode.{code}
use Rattle.cs_base.specs.content.Orders.{by_place}
use Rattle.cs_base.specs.declared.index.block.BlockHead.{BlockHead}
use Rattle.cs_base.specs.declared.content.doc.Post.{Post}
use Rattle.cs_base.specs.declared.content.limits.TheConstants.{MAX_WORDS}

-- each gap by its code, 0 in the same document as the row before; of no rows no bytes
unfoldable pub gap_column : ℕ → List Post → List ℕ
gap_column before [] = []
gap_column before (r ∷ rs) = code (r.doc - before) ++ gap_column r.doc rs

-- 0 for the word lo; of no rows no bytes
unfoldable pub word_column : ℕ → List Post → List ℕ
word_column lo rs = flat_map (λ r. to_be_bytes w16 (r.word - lo)) rs

-- 0 for a facet word; of no rows no bytes
unfoldable pub position_column : List Post → List ℕ
position_column rs = flat_map (λ r. to_be_bytes w32 r.pos) rs

-- a score is a byte; of no rows no bytes
unfoldable pub score_column : List Post → List ℕ
score_column rs = map (λ r. r.score) rs

-- the four columns one behind the other; of no rows no bytes
unfoldable pub block_bytes : List Post → ℕ → List ℕ
block_bytes rs lo = gap_column 0 rs ++ (word_column lo rs ++ (position_column rs ++ score_column rs))

-- rows in order, with words that two bytes tell apart; no rows are writable
pub record AreWritable (lo : ℕ) (rs : List Post) : Type 0 where
  pub sorted : IsStrictlySortedBy by_place rs
  pub words : All (λ r. (lo ≤ r.word) × (r.word < lo + 2 ^ 16)) rs

-- at least as many rows as words, from 8 to 12 bytes a row, and the words within the limit; a head of no rows goes with no bytes
pub record IsShaped (head : BlockHead) (size : ℕ) : Type 0 where
  pub size_is : size ≡ head.len
  pub rows : head.words ≤ head.rows
  pub least : 8 * head.rows ≤ head.len
  pub most : head.len ≤ 12 * head.rows
  pub words : head.lo + head.words ≤ MAX_WORDS
