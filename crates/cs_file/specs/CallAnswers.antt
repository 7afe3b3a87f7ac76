-- What the answers of the calls say.
--
-- Source: this engine's own.
--
--   IsDamageOf b e          the fault of opening, if it is damage, is the first broken rule of the bytes with its place
--   is_read_of_open r, is_read r, is_sink r, is_changed r      the answer is a failed read, a failed sink, a change
--   AreOf posts docs words         the documents and the words of posts
--   AreScoredOf posts docs words scores      with their scores
--   IsRanged i p            the numbers of a post are in range
--   IsBlockOf i told k rows     rows are block k by its head and the index's weights, in bytes that were read
--   BreaksBlock i told k rule at, IsChangeOfBlock i told k e     the first rule that the bytes of block k break, with its place in the file
--   BreaksTitle i told d rule at, IsChangeOfTitle i told d e     the bytes of title d aren't text
--   LeavesStore tells lends fails i Told old now r     what a call with this answer leaves of the store that it reads
use Rattle.std.specs.Prelude.{◌≡◌, ℕ, ◌<◌, Bool, true, false, List, length, map, Option, Some, Result, Err, IfErr, slice_index_or}
use Rattle.std.specs.Option.{ForSome, option_map}
use Rattle.std.specs.Str.{is_utf8}
use Rattle.cs_base.specs.outside.Outside.{part}
use Rattle.cs_base.specs.declared.index.block.BlockHead.{BlockHead}
use Rattle.cs_base.specs.declared.content.doc.Post.{Post}
use Rattle.cs_model_index.specs.BlockRules.{IsBlock, judged, broken_at, is_scored}
use Rattle.cs_model_index.specs.Blocks.{IsShaped}
use Rattle.cs_model_index.specs.FileRules.{in_file, damage}
use Rattle.cs_file.specs.Indexes.{CausedReads, IndexView, StandsFor, block_place, title_place, title_len}
use Rattle.cs_file.specs.declared.fault.OpenFault.{OpenFault}
use Rattle.cs_file.specs.declared.fault.OpenFault.TheVariants as opens
use Rattle.cs_file.specs.declared.fault.FetchFault.{FetchFault}
use Rattle.cs_file.specs.declared.fault.FetchFault.TheVariants as fetches
use Rattle.cs_file.specs.declared.fault.WriteFault.{WriteFault}
use Rattle.cs_file.specs.declared.fault.WriteFault.TheVariants as writes

-- of a failed read and of want of memory nothing is said
abbrev pub IsDamageOf : List ℕ → OpenFault → Type 0
IsDamageOf b (opens.Damaged rule at) = damage b ≡ Some (broken_at rule at)
IsDamageOf b opens.Read = Unit {0}
IsDamageOf b opens.Memory = Unit {0}

-- an Ok isn't one
abbrev pub is_read_of_open : {T : Type 0} → Result T OpenFault → Bool
is_read_of_open (Err opens.Read) = true
is_read_of_open _ = false

-- an Ok isn't one
abbrev pub is_read : {T : Type 0} → Result T FetchFault → Bool
is_read (Err fetches.Read) = true
is_read _ = false

-- an Ok isn't one
abbrev pub is_changed : {T : Type 0} → Result T FetchFault → Bool
is_changed (Err (fetches.Changed rule at)) = true
is_changed _ = false

-- an Ok isn't one
abbrev pub is_sink : {T : Type 0} → Result T WriteFault → Bool
is_sink (Err writes.Sink) = true
is_sink _ = false

-- one of each for each post
abbrev pub AreOf : List Post → List ℕ → List ℕ → Type 0
AreOf posts docs words = (docs ≡ map (λ p. p.doc) posts) × (words ≡ map (λ p. p.word) posts)

-- the same with scores
abbrev pub AreScoredOf : List Post → List ℕ → List ℕ → List ℕ → Type 0
AreScoredOf posts docs words scores = AreOf posts docs words × (scores ≡ map (λ p. p.score) posts)

-- a document and a word of the index, with the position and, by the index's weights, the score of a facet word or of any other
pub record IsRanged (i : IndexView) (p : Post) : Type 0 where
  pub doc : p.doc < i.docs
  pub word : p.word < length i.words
  pub facet : Bool
  pub scored : is_scored i.weights facet p ≡ true

-- they keep the rules of a block in some bytes; of a store that tells, these are its bytes at the block's place
pub record IsBlockOf (i : IndexView) (told : Option (List ℕ)) (k : ℕ) (rows : List Post) : Type 0 where
  pub bytes : List ℕ
  pub shaped : (d : BlockHead) → IsShaped (slice_index_or i.heads k d) (length bytes)
  pub block : (d : BlockHead) → IsBlock i.weights (slice_index_or i.heads k d) i.docs rows bytes
  pub read : (d : BlockHead) → ForSome told (λ b. bytes ≡ part b (block_place i k) (slice_index_or i.heads k d).len)

-- some bytes break the rule, and no other of a block before it; of a store that tells, these are its bytes at the block's place
pub record BreaksBlock (i : IndexView) (told : Option (List ℕ)) (k rule at : ℕ) : Type 0 where
  pub bytes : List ℕ
  pub broken : (d : BlockHead) → option_map (in_file (block_place i k)) (judged i.weights (slice_index_or i.heads k d) i.docs bytes) ≡ Some (broken_at rule at)
  pub read : (d : BlockHead) → ForSome told (λ b. bytes ≡ part b (block_place i k) (slice_index_or i.heads k d).len)

-- of a failed read and of want of memory nothing is said
abbrev pub IsChangeOfBlock : IndexView → Option (List ℕ) → ℕ → FetchFault → Type 0
IsChangeOfBlock i told k (fetches.Changed rule at) = BreaksBlock i told k rule at
IsChangeOfBlock i told k fetches.Read = Unit {0}
IsChangeOfBlock i told k fetches.Memory = Unit {0}

-- some bytes that aren't UTF-8 break rule 9 at the title's place; of a store that tells, these are its bytes there
pub record BreaksTitle (i : IndexView) (told : Option (List ℕ)) (d rule at : ℕ) : Type 0 where
  pub bytes : List ℕ
  pub broken : is_utf8 bytes ≡ false
  pub rule_is : rule ≡ 9
  pub place : at ≡ title_place i d
  pub read : ForSome told (λ b. bytes ≡ part b (title_place i d) (title_len i d))

-- of a failed read and of want of memory nothing is said
abbrev pub IsChangeOfTitle : IndexView → Option (List ℕ) → ℕ → FetchFault → Type 0
IsChangeOfTitle i told d (fetches.Changed rule at) = BreaksTitle i told d rule at
IsChangeOfTitle i told d fetches.Read = Unit {0}
IsChangeOfTitle i told d fetches.Memory = Unit {0}

-- its bytes and what is lent to it are as they were, its count of failures rose exactly where the answer is a failed read, and a
-- change is told only by Told, never of those bytes that the index was opened over
pub record LeavesStore {S L T : Type 0} (tells : S → Option (List ℕ)) (lends : S → L) (fails : S → ℕ) (i : IndexView) (Told : FetchFault → Type 0)
    (old now : S) (r : Result T FetchFault) : Type 0 where
  pub unchanged : ForSome (tells old) (λ b. StandsFor b i → is_changed r ≡ false)
  pub changed : IfErr r Told
  pub bytes : tells now ≡ tells old
  pub lent : lends now ≡ lends old
  pub caused : CausedReads (is_read r) (fails old) (fails now)
