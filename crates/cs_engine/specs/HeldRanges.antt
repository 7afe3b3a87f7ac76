-- Ranges of words that are held from one request to the next.
--
-- Source: this engine's own.
--
--   bytes_of_blocks bs      the bytes of blocks and of what was read of them
--   what_bytes w n       the bytes of what is held of n words
--   bytes_of_range r     the bytes of a range, and of what is held of it
--   range_bytes rs       the bytes of ranges
--   is_kind kind w       what is held is of this kind
--   is_range lo hi kind r     the range is that from lo up to hi, and what is held of it is of this kind
--   PassesAt t xs k      a member of a list passes a test
--   IsWithout r old new  the range is taken out
--   IsFirstOf all first  the first ranges, as many as have room together
--   HoldsMore r old new  a range is held in front of the others, as far as these have room, or they stay as they are
--   OnlyGoes old new     each that is held was held before
--   FitsHolding i w      over each store: rows, or hits and words, are in the range of the index, and blocks are those of its directory
--   FitsRange i r        what is held of a range is
--   IsHoldingOver s lo hi w   of a stock it is what the words from lo up to hi have
--   IsHeldOver s r       what is held of a range is what its words have
--   AreHeldOver s rs     each of the held ones is
use Rattle.std.specs.Prelude.{◌≡◌, ◌⊎◌, ℕ, ◌+◌, ◌-◌, ◌*◌, ◌<◌, ◌≤◌, ◌==◌, ◌&&◌, Bool, true, false, List, [], ◌∷◌, ◌++◌, filter, length, take, slice_index_or}
use Rattle.std.specs.List.{All, Contains, sum_by}
use Rattle.cs_base.specs.declared.content.scores.TheConstants.{MAX_ROW_SCORE}
use Rattle.cs_file.specs.Indexes.{IndexView}
use Rattle.cs_file.specs.BlockBytes.{FitsBlock, HasFileBytes, read_size}
use Rattle.cs_file.specs.declared.read_block.ReadBlock.{ReadBlock}
use Rattle.cs_model_kept.specs.Entries.{listed_count}
use Rattle.cs_rows.specs.Blockwise.{IsWideFound}
use Rattle.cs_rows.specs.IndexReading.{AreWithin}
use Rattle.cs_rows.specs.Steps.{IsBaseOf}
use Rattle.cs_rows.specs.Stocked.{Stock, is_between}
use Rattle.cs_engine.specs.declared.held.HeldKind.{HeldKind}
use Rattle.cs_engine.specs.declared.held.HeldKind.TheVariants as kinds
use Rattle.cs_engine.specs.declared.held.HeldRange.{HeldRange}
use Rattle.cs_engine.specs.declared.held.Holding.{Holding}
use Rattle.cs_engine.specs.declared.held.Holding.TheVariants as holding
use Rattle.cs_engine.specs.declared.held.TheConstants.{BLOCK_BYTES, COUNT_BYTES, HIT_BYTES, MAX_HELD_BYTES, RANGE_BYTES, ROW_BYTES}

-- ---- bytes
-- 0 of none
abbrev pub bytes_of_blocks : List ReadBlock → ℕ
bytes_of_blocks = sum_by (λ r. BLOCK_BYTES + read_size r)

-- of what is counted the hits count and the words; a base that stands for all lists no hit
abbrev pub what_bytes : Holding → ℕ → ℕ
what_bytes (holding.Rows rows) words = ROW_BYTES * length rows.posts
what_bytes (holding.Counted hits counts) words = HIT_BYTES * listed_count hits + COUNT_BYTES * words
what_bytes (holding.Blocks blocks) words = bytes_of_blocks blocks.items

-- those of the range by itself too
abbrev pub bytes_of_range : HeldRange → ℕ
bytes_of_range r = RANGE_BYTES + what_bytes r.what (r.high - r.low)

-- 0 of none
abbrev pub range_bytes : List HeldRange → ℕ
range_bytes [] = 0
range_bytes (r ∷ rs) = bytes_of_range r + range_bytes rs

-- ---- which are held
-- no rows are rows too
abbrev pub is_kind : HeldKind → Holding → Bool
is_kind kinds.Rows (holding.Rows rows) = true
is_kind kinds.Counted (holding.Counted hits counts) = true
is_kind kinds.Blocks (holding.Blocks blocks) = true
is_kind _ _ = false

-- by both ends
abbrev pub is_range : ℕ → ℕ → HeldKind → HeldRange → Bool
is_range lo hi kind r = (r.low == lo && r.high == hi) && is_kind kind r.what

-- none behind the last
abbrev pub PassesAt : {X : Type 0} → (X → Bool) → List X → ℕ → Type 0
PassesAt test xs k = (k < length xs) × ((d : _) → test (slice_index_or xs k d) ≡ true)

-- the others stay in their order
pub record IsWithout (r : HeldRange) (old new : List HeldRange) : Type 0 where
  pub before : List HeldRange
  pub behind : List HeldRange
  pub was : old ≡ before ++ r ∷ behind
  pub now : new ≡ before ++ behind

-- one more hadn't room
pub record IsFirstOf (all first : List HeldRange) : Type 0 where
  pub many : ℕ
  pub within : many ≤ length all
  pub are : first ≡ take many all
  pub room : range_bytes first ≤ MAX_HELD_BYTES
  pub full : many < length all → MAX_HELD_BYTES < range_bytes (take (many + 1) all)

-- where it is larger by itself than all that is held, or memory for its place is wanted, they stay
abbrev pub HoldsMore : HeldRange → List HeldRange → List HeldRange → Type 0
HoldsMore r old new = (new ≡ old) ⊎ IsFirstOf (r ∷ old) new

-- a range that is held now was held before
abbrev pub OnlyGoes : List HeldRange → List HeldRange → Type 0
OnlyGoes old new = All (Contains old) new

-- ---- what is held
-- whatever store it was read from
abbrev pub FitsHolding : IndexView → Holding → Type 0
FitsHolding i (holding.Rows rows) = AreWithin i rows.posts
FitsHolding i (holding.Counted hits counts) = IsBaseOf i.docs MAX_ROW_SCORE hits × (counts.high ≤ length i.words)
FitsHolding i (holding.Blocks blocks) = All (FitsBlock i) blocks.items

-- by what is held of it
abbrev pub FitsRange : IndexView → HeldRange → Type 0
FitsRange i r = FitsHolding i r.what

-- the rows in order; the hits as of a query of these words alone, whose own entry is too large; the blocks with the file's own bytes
abbrev pub IsHoldingOver : Stock → ℕ → ℕ → Holding → Type 0
IsHoldingOver s lo hi (holding.Rows rows) = rows.posts ≡ filter (is_between lo hi) s.posts
IsHoldingOver s lo hi (holding.Counted hits counts) = IsWideFound (filter (is_between lo hi) s.posts) hits counts
IsHoldingOver s lo hi (holding.Blocks blocks) = All (HasFileBytes s.bytes) blocks.items

-- by both ends of the range
abbrev pub IsHeldOver : Stock → HeldRange → Type 0
IsHeldOver s r = IsHoldingOver s r.low r.high r.what

-- of no ranges it holds
abbrev pub AreHeldOver : Stock → List HeldRange → Type 0
AreHeldOver s held = All (IsHeldOver s) held
