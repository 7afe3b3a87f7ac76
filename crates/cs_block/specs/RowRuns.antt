-- What the functions of this crate say of a run: some rows of a block, one behind the other, read column by column.
--
--   place_after gaps at j          the place behind the first j codes of those that begin at a place of the gap column
--   doc_after gaps at before j     the document of the row that has the last of them, where the row in front is in `before`
--   HasGap gaps at before j d      the code of row j stands where it should, and d is the document that it makes
--   HaveDocs gaps at before docs ds     the documents of as many rows, each below docs
--   HasDocs gaps at before docs ds next      they are, and next is the place behind their codes
--   AreWords lo words bytes first ws    the words of the rows from `first` on, two bytes a row, each of the block
--   is_position facet p            a position that a row of a facet word, or of any other word, may have
--   ArePositions facet bytes first ps   the positions of the rows from `first` on, four bytes a row, each of the block's kind
--   is_score w facet s             a score that it may have in a collection of these weights
--   AreScores w facet ss           scores of the block's kind
--   row_in ds ws ps ss j           row j of four columns
--   unscored ds ws ps j            its place among rows: it without its score, which has no say in the order
--   AreOnward ds                   no document below the one before it
--   AreAscending ds ws ps          each row behind the one before it
use Rattle.std.specs.Prelude.{◌≡◌, ℕ, zero, suc, ◌+◌, ◌*◌, ◌<◌, ◌≤◌, ◌&&◌, ◌||◌, ◌==◌, nat_le, true, Bool, List, length, take, drop, slice_index_or}
use Rattle.std.specs.Prelude.{if◌then◌else◌}
use Rattle.std.specs.Int.{w16, w32, from_be_bytes}
use Rattle.std.specs.Ordering.{is_lt}
use Rattle.cs_base.specs.content.Orders.{by_place}
use Rattle.cs_base.specs.declared.content.doc.Post.{Post}
use Rattle.cs_base.specs.declared.content.scores.Weights.{Weights}
use Rattle.cs_base.specs.declared.content.limits.TheConstants.{MAX_POSITION}
use Rattle.cs_model_index.specs.BlockRules.{gap_len, gap_number}
use Rattle.cs_block.specs.BlockReading.{GapHere}

-- ---- the gap column

-- of no codes the place itself
unfoldable pub place_after : List ℕ → ℕ → ℕ → ℕ
place_after gaps at zero = at
place_after gaps at (suc j) = place_after gaps at j + gap_len (drop (place_after gaps at j) gaps)

-- of no codes the document in front
unfoldable pub doc_after : List ℕ → ℕ → ℕ → ℕ → ℕ
doc_after gaps at before zero = before
doc_after gaps at before (suc j) = doc_after gaps at before j + gap_number (drop (place_after gaps at j) gaps)

-- row 0 has the code at the place itself
abbrev pub HasGap : List ℕ → ℕ → ℕ → ℕ → ℕ → Type 0
HasGap gaps at before j d = (n : ℕ) × GapHere gaps (place_after gaps at j) n (place_after gaps at (suc j)) × (d ≡ doc_after gaps at before j + n)

-- also of no documents
abbrev pub HaveDocs : List ℕ → ℕ → ℕ → ℕ → List ℕ → Type 0
HaveDocs gaps at before docs ds = (j : ℕ) → j < length ds → HasGap gaps at before j (slice_index_or ds j 0) × (slice_index_or ds j 0 < docs)

-- of no documents the place itself
pub record HasDocs (gaps : List ℕ) (at before docs : ℕ) (ds : List ℕ) (next : ℕ) : Type 0 where
  pub are : HaveDocs gaps at before docs ds
  pub next_is : next ≡ place_after gaps at (length ds)
  pub within : next ≤ length gaps

-- ---- the other columns

-- also of no words
abbrev pub AreWords : ℕ → ℕ → List ℕ → ℕ → List ℕ → Type 0
AreWords lo words bytes first ws = (j : ℕ) → j < length ws
    → (slice_index_or ws j 0 ≡ lo + from_be_bytes w16 (take 2 (drop (2 * (first + j)) bytes))) × (slice_index_or ws j 0 < lo + words)

-- that of a facet word is 0
abbrev pub is_position : Bool → ℕ → Bool
is_position facet p = if facet then p == 0 else (nat_le 1 p && nat_le p MAX_POSITION)

-- also of no positions
abbrev pub ArePositions : Bool → List ℕ → ℕ → List ℕ → Type 0
ArePositions facet bytes first ps = (j : ℕ) → j < length ps
    → (slice_index_or ps j 0 ≡ from_be_bytes w32 (take 4 (drop (4 * (first + j)) bytes))) × (is_position facet (slice_index_or ps j 0) ≡ true)

-- a facet word has one, any other word one of two
abbrev pub is_score : Weights → Bool → ℕ → Bool
is_score w facet s = if facet then s == w.facet else (s == w.title || s == w.text)

-- also of no scores
abbrev pub AreScores : Weights → Bool → List ℕ → Type 0
AreScores w facet ss = (j : ℕ) → j < length ss → is_score w facet (slice_index_or ss j 0) ≡ true

-- ---- rows

-- zeros where a column is shorter
abbrev pub row_in : List ℕ → List ℕ → List ℕ → List ℕ → ℕ → Post
row_in ds ws ps ss j = record { doc = slice_index_or ds j 0; word = slice_index_or ws j 0; pos = slice_index_or ps j 0; score = slice_index_or ss j 0 }

-- its score is 0
abbrev pub unscored : List ℕ → List ℕ → List ℕ → ℕ → Post
unscored ds ws ps j = record { doc = slice_index_or ds j 0; word = slice_index_or ws j 0; pos = slice_index_or ps j 0; score = 0 }

-- also of no documents and of one
abbrev pub AreOnward : List ℕ → Type 0
AreOnward ds = (j : ℕ) → suc j < length ds → slice_index_or ds j 0 ≤ slice_index_or ds (suc j) 0

-- also of no rows and of one
abbrev pub AreAscending : List ℕ → List ℕ → List ℕ → Type 0
AreAscending ds ws ps = (j : ℕ) → suc j < length ds → is_lt (by_place (unscored ds ws ps j) (unscored ds ws ps (suc j))) ≡ true
