-- What the functions of this crate say of a block that is read.
--
--   GapHere gaps at n next   the code of n stands at a place of the gap column, and next is the place behind it
--   DocHere gaps at before docs doc next     so it does, and makes a document of the collection, where the row in front is in `before`
--   HasNoDoc gaps at before docs     no code stands there, or it makes no document of the collection
--   HasColumns head c        columns as long as a block's are, in fewer than 2^32 bytes
--   Decodes result broken    the answer where this is the first broken rule, if there is one
use Rattle.std.specs.Prelude.{◌≡◌, ◌⊎◌, ℕ, ◌+◌, ◌*◌, ◌^◌, ◌<◌, ◌≤◌, List, length, drop, Option, Some, None, Result, Ok, Err}
use Rattle.cs_base.specs.index.GapCode.{code, first_code}
use Rattle.cs_base.specs.declared.index.block.BlockHead.{BlockHead}
use Rattle.cs_base.specs.declared.index.block.Broken.{Broken}
use Rattle.cs_model_index.specs.BlockRules.{BlockColumns, gap_bytes}
use Rattle.cs_block.specs.declared.fault.BlockFault.{BlockFault}
use Rattle.cs_block.specs.declared.fault.BlockFault.TheVariants as faults

-- a gap code within the column
pub record GapHere (gaps : List ℕ) (at n next : ℕ) : Type 0 where
  pub is : first_code (drop at gaps) ≡ Some n
  pub behind : next ≡ at + length (code n)
  pub within : next ≤ length gaps
  pub below : n < 2 ^ 32

-- the gap is counted from the document in front
pub record DocHere (gaps : List ℕ) (at before docs doc next : ℕ) : Type 0 where
  pub n : ℕ
  pub gap : GapHere gaps at n next
  pub sum : doc ≡ before + n
  pub below : doc < docs

-- documents are those below docs
abbrev pub HasNoDoc : List ℕ → ℕ → ℕ → ℕ → Type 0
HasNoDoc gaps at before docs = (first_code (drop at gaps) ≡ None) ⊎ ((n : ℕ) × (next : ℕ) × GapHere gaps at n next × (docs ≤ before + n))

-- the lengths of the four columns; places in them have 32 bits
pub record HasColumns (head : BlockHead) (c : BlockColumns) : Type 0 where
  pub gaps_len : length c.gaps ≡ gap_bytes head
  pub words_len : length c.words ≡ 2 * head.rows
  pub positions_len : length c.positions ≡ 4 * head.rows
  pub scores_len : length c.scores ≡ head.rows
  pub small : head.len < 2 ^ 32

-- Ok where no rule is broken; memory may always run out
abbrev pub Decodes : Result (Unit {0}) BlockFault → Option Broken → Type 0
Decodes (Ok u) broken = broken ≡ None
Decodes (Err (faults.Rule n at)) broken = broken ≡ Some (record { n = n; at = at })
Decodes (Err faults.Memory) broken = Unit {0}
