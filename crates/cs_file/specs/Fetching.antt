-- What the functions say that a fetch is made of.
--
-- Source: this engine's own.
--
--   IsBlockAt i k placed      what is known of block k
--   CanBeJudged placed len    a block of so many bytes can be read by its rules
--   HasScored placed read f   columns have the documents, words and scores of the posts of a block whose bytes were read
--   HoldsNone f               columns have no posts
--   IsFaultAt at broken e     the fault where this is the first rule that a block at a place breaks, if there is one
--   IsFaultOf placed bytes e     the same of the bytes of a block
--   ReadsText bytes at r      the text of these bytes, or that rule 9 is broken at the place
use Rattle.std.specs.Prelude.{◌≡◌, ℕ, ◌^◌, ◌<◌, true, false, List, [], length, slice_index_or, Option, Some, Result, Ok, Err}
use Rattle.std.specs.Option.{option_map}
use Rattle.std.specs.Str.{is_utf8}
use Rattle.cs_base.specs.declared.index.block.BlockHead.{BlockHead}
use Rattle.cs_base.specs.declared.index.block.Broken.{Broken}
use Rattle.cs_block.specs.BlockScores.{HasScores}
use Rattle.cs_block.specs.DocWords.{HasDocWords}
use Rattle.cs_model.specs.Weights.{AreWeights}
use Rattle.cs_model_index.specs.BlockRules.{broken_at, judged}
use Rattle.cs_model_index.specs.Blocks.{IsShaped}
use Rattle.cs_model_index.specs.FileRules.{in_file}
use Rattle.cs_file.specs.Indexes.{IndexView, IsIndex, block_place}
use Rattle.cs_file.specs.declared.fault.FetchFault.{FetchFault}
use Rattle.cs_file.specs.declared.fault.FetchFault.TheVariants as fetches
use Rattle.cs_file.specs.declared.fetched.Fetched.{Fetched}
use Rattle.cs_file.specs.declared.fetching.PlacedBlock.{PlacedBlock}

-- a place in the file has fewer than 64 bits
pub record IsBlockAt (i : IndexView) (k : ℕ) (placed : PlacedBlock) : Type 0 where
  pub index : IsIndex i
  pub known : k < length i.heads
  pub small : placed.at < 2 ^ 63
  pub head_is : (d : BlockHead) → placed.head ≡ slice_index_or i.heads k d
  pub docs_are : placed.docs ≡ i.docs
  pub weights_are : placed.weights ≡ i.weights
  pub at_is : placed.at ≡ block_place i k

-- its head fits the bytes, its place and the documents have as many bits as their numbers, and its rows count for something
pub record CanBeJudged (placed : PlacedBlock) (len : ℕ) : Type 0 where
  pub shaped : IsShaped placed.head len
  pub small : placed.at < 2 ^ 63
  pub few : placed.docs < 2 ^ 32
  pub weights : AreWeights placed.weights

-- the documents, words and scores of a block whose bytes were read
pub record HasScored (placed : PlacedBlock) (read : List ℕ) (f : Fetched) : Type 0 where
  pub listed : HasDocWords placed.head placed.docs read f.docs.items f.words.items
  pub scored : HasScores placed.weights placed.head read f.scores.items

-- whatever bytes are there
abbrev pub HoldsNone : Fetched → Type 0
HoldsNone f = (f.docs.items ≡ []) × ((f.words.items ≡ []) × (f.scores.items ≡ []))

-- of a failed read and of want of memory nothing is said
abbrev pub IsFaultAt : ℕ → Option Broken → FetchFault → Type 0
IsFaultAt at broken (fetches.Changed rule there) = option_map (in_file at) broken ≡ Some (broken_at rule there)
IsFaultAt at broken fetches.Read = Unit {0}
IsFaultAt at broken fetches.Memory = Unit {0}

-- where the bytes keep the rules it is none of a change
abbrev pub IsFaultOf : PlacedBlock → List ℕ → FetchFault → Type 0
IsFaultOf placed bytes e = IsFaultAt placed.at (judged placed.weights placed.head placed.docs bytes) e

-- no bytes are the empty text
abbrev pub ReadsText : List ℕ → ℕ → Result (List ℕ) FetchFault → Type 0
ReadsText bytes at (Ok t) = (t ≡ bytes) × (is_utf8 bytes ≡ true)
ReadsText bytes at (Err (fetches.Changed rule there)) = (is_utf8 bytes ≡ false) × (rule ≡ 9) × (there ≡ at)
ReadsText bytes at (Err fetches.Read) = Unit {0}
ReadsText bytes at (Err fetches.Memory) = Unit {0}
