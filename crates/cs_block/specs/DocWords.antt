-- Reading the documents and the words of a block's rows, without positions and scores.
--
--   front_bytes head             how many bytes of a block tell these
--   HasFront head bytes block    a block begins with the same such bytes
--   IsFront head gaps words      two columns as long as a block's are, in fewer than 2^32 bytes
--   BreaksFirst head docs gaps words broken      what a block of these two columns breaks first
--   ListsFront head docs gaps words row_docs row_words      the documents and words of two columns
--   IsListable head docs p       the document and the word of a row are in range
--   HasDocWords head docs bytes row_docs row_words      they are those of all rows, each in range
use Rattle.std.specs.Prelude.{◌≡◌, ℕ, ◌+◌, ◌*◌, ◌^◌, ◌<◌, ◌≤◌, List, length, map, take, Some}
use Rattle.std.specs.List.{All}
use Rattle.cs_base.specs.declared.index.block.BlockHead.{BlockHead}
use Rattle.cs_base.specs.declared.index.block.Broken.{Broken}
use Rattle.cs_base.specs.declared.content.doc.Post.{Post}
use Rattle.cs_base.specs.declared.content.scores.Weights.{Weights}
use Rattle.cs_model_index.specs.BlockRules.{gap_bytes, judged_columns, rows_read}
use Rattle.cs_model_index.specs.Blocks.{IsShaped}
use Rattle.cs_block.specs.RowRuns.{AreWords, HasDocs}

-- those of the gaps and the words, with which a block begins
abbrev pub front_bytes : BlockHead → ℕ
front_bytes head = gap_bytes head + 2 * head.rows

-- whatever stands behind them on either side
abbrev pub HasFront : BlockHead → List ℕ → List ℕ → Type 0
HasFront head bytes block = take (front_bytes head) block ≡ take (front_bytes head) bytes

-- the lengths of the two columns; places in them have 32 bits
pub record IsFront (head : BlockHead) (gaps words : List ℕ) : Type 0 where
  pub shaped : IsShaped head head.len
  pub gaps_len : length gaps ≡ gap_bytes head
  pub words_len : length words ≡ 2 * head.rows
  pub small : head.len < 2 ^ 32

-- whatever its positions and scores are, and whatever the rows of its collection count for
abbrev pub BreaksFirst : BlockHead → ℕ → List ℕ → List ℕ → Broken → Type 0
BreaksFirst head docs gaps words broken =
    (w : Weights) (positions scores : List ℕ)
    → judged_columns w head docs (record { gaps = gaps; words = words; positions = positions; scores = scores }) ≡ Some broken

-- each is in range; bytes may be left over behind the gaps
abbrev pub ListsFront : BlockHead → ℕ → List ℕ → List ℕ → List ℕ → List ℕ → Type 0
ListsFront head docs gaps words row_docs row_words = ((next : ℕ) × HasDocs gaps 0 0 docs row_docs next) × AreWords head.lo head.words words 0 row_words

-- a document below docs, and a word of the block
pub record IsListable (head : BlockHead) (docs : ℕ) (p : Post) : Type 0 where
  pub doc : p.doc < docs
  pub from : head.lo ≤ p.word
  pub word : p.word < head.lo + head.words

-- the rows are those that are read of any bytes
pub record HasDocWords (head : BlockHead) (docs : ℕ) (bytes row_docs row_words : List ℕ) : Type 0 where
  pub docs_are : row_docs ≡ map (λ p. p.doc) (rows_read head bytes)
  pub words_are : row_words ≡ map (λ p. p.word) (rows_read head bytes)
  pub listable : All (IsListable head docs) (rows_read head bytes)
