-- Where rows lie: in the blocks of an index, and in memory behind them.
--
-- Source: this engine's own.
--
--   SourceView           an index, how many numbers of documents there are and which of them are documents, the words, the rows in memory, how
--                        many words of the index come before one, and over bytes the stock and the rows of each block
--   seen v               the index with the source's documents and words, for what is said of rows in range
--   source_of i          an opened index as a source
--   met_in v lo hi       how many blocks hold a word from number lo up to hi
--   HoldMet v lo hi test     each of these blocks holds a word of the index that passes
--   all_rows v b          the rows of all blocks, one block behind the other, and the rows in memory behind them
--   is_there present p   the post's document is there
--   title_reads v d      how often a store is read for the title of a document: once where the index has it, and else not at all
--   filed_hits v hs      how many of these hits the index has
--   IsIn v p             a row in memory is in range, and its document is there
--   IsTold v b           what always holds of rows over the bytes of the index
--   IsSource v           what always holds of a source
--   CanRead told v       it is one, and a store that tells has all its blocks
use Rattle.std.specs.Prelude.{◌≡◌, ℕ, ◌+◌, ◌-◌, ◌≤◌, ◌<◌, Bool, true, false, nat_lt, if◌then◌else◌, List, [], ◌++◌, length, filter, flat_map, take, drop, replicate, slice_index_or}
use Rattle.std.specs.Prelude.{Option}
use Rattle.std.specs.List.{All, list_any}
use Rattle.std.specs.List.Sorted.{IsStrictlySortedBy}
use Rattle.std.specs.Ordering.{nat_cmp}
use Rattle.std.specs.Cmp.Lexicographic.{slice_cmp}
use Rattle.std.specs.Str.{IsUtf8, bytes_eq}
use Rattle.cs_base.specs.declared.content.doc.Post.{Post}
use Rattle.cs_base.specs.declared.content.doc.Scored.{Scored}
use Rattle.cs_base.specs.declared.content.limits.TheConstants.{MAX_DOCS, MAX_WORDS}
use Rattle.cs_base.specs.declared.index.block.BlockHead.{BlockHead}
use Rattle.cs_file.specs.CallAnswers.{IsRanged}
use Rattle.cs_file.specs.Indexes.{AreMet, HasAllBlocks, IndexView, IsIndex, StandsFor, is_met}
use Rattle.cs_model_index.specs.Sections.{image_of}
use Rattle.cs_model.specs.Answers.{begins}
use Rattle.cs_model_kept.specs.Due.{block_words, met_prefix, met_word}
use Rattle.cs_model_kept.specs.Sharp.{lies_in}
use Rattle.cs_tables.specs.WordCounts.{AreCountable, is_chosen}
use Rattle.cs_vocab.specs.Ranges.{IsRange}
use Rattle.cs_rows.specs.IndexReading.{division, IsRangeOf, stock_of}
use Rattle.cs_rows.specs.Counting.{counted_rows}
use Rattle.cs_rows.specs.Stocked.{IsStocked, Stock, stock_docs, is_between, present_docs}

-- an index without rows in memory has as many words before one as the word's number says
pub record SourceView : Type 0 where
  pub index : IndexView
  pub docs : ℕ
  pub present : List Bool
  pub words : List (List ℕ)
  pub held : List Post
  pub before : ℕ → ℕ
  pub stock : List ℕ → Stock
  pub blocks : List ℕ → List (List Post)

-- an opened index itself is seen as it is
abbrev pub seen : SourceView → IndexView
seen v = record {
  docs = v.docs;
  words = v.words;
  offsets = v.index.offsets;
  heads = v.index.heads;
  target = v.index.target;
  weights = v.index.weights;
  titles_at = v.index.titles_at;
  blocks_at = v.index.blocks_at;
}

-- all its rows are in blocks
abbrev pub source_of : IndexView → SourceView
source_of i = record {
  index = i;
  docs = i.docs;
  present = replicate i.docs true;
  words = i.words;
  held = [];
  before = λ n. n;
  stock = stock_of;
  blocks = λ b. (image_of b).blocks;
}

-- none where lo is hi
abbrev pub met_in : SourceView → ℕ → ℕ → ℕ
met_in v lo hi = length (filter (is_met (v.before lo) (v.before hi)) v.index.heads)

-- of no blocks it holds
abbrev pub HoldMet : SourceView → ℕ → ℕ → (List ℕ → Bool) → Type 0
HoldMet v lo hi test = All (λ h. is_met (v.before lo) (v.before hi) h ≡ true → list_any test (block_words (division v.index) h) ≡ true) v.index.heads

-- in no order
abbrev pub all_rows : SourceView → List ℕ → List Post
all_rows v b = flat_map (λ block. block) (v.blocks b) ++ v.held

-- not so behind the last number
abbrev pub is_there : List Bool → Post → Bool
is_there present p = slice_index_or present p.doc false

-- none of a number that is no document's
abbrev pub title_reads : SourceView → ℕ → ℕ
title_reads v d = if nat_lt d v.index.docs then 1 else 0

-- of no hits 0
abbrev pub filed_hits : SourceView → List Scored → ℕ
filed_hits v hs = length (filter (λ h. nat_lt h.doc v.index.docs) hs)

-- with the position and the score of a facet word or of any other
pub record IsIn (v : SourceView) (p : Post) : Type 0 where
  pub there : is_there v.present p ≡ true
  pub ranged : IsRanged (seen v) p

-- the documents are those that are there, and the bytes are the stock's; the rows have the members of the stock's, each once; those of a block
-- lie from its least document to its greatest; the blocks that hold some words have all their rows in blocks; and rows of blocks and memory can be counted together
pub record IsTold (v : SourceView) (b : List ℕ) : Type 0 where
  pub stocked : IsStocked (v.stock b)
  pub docs : present_docs v.present ≡ stock_docs (v.stock b)
  pub words : v.words ≡ (v.stock b).words
  pub bytes : (v.stock b).bytes ≡ b
  pub count : length (v.blocks b) ≡ length v.index.heads
  pub lie : (k : ℕ) (h : BlockHead) → k < length v.index.heads
      → All (λ p. lies_in (slice_index_or v.index.heads k h) p.doc ≡ true) (slice_index_or (v.blocks b) k [])
  pub alike : (t : Post → Bool) → list_any t (all_rows v b) ≡ list_any t (v.stock b).posts
  pub long : (t : Post → Bool) → length (filter t (all_rows v b)) ≡ length (filter t (v.stock b).posts)
  pub run : (lo hi first last : ℕ) → AreMet v.index.heads (v.before lo) (v.before hi) first last
      → filter (is_between lo hi) (flat_map (λ block. block) (v.blocks b)) ≡ flat_map (filter (is_between lo hi))
      (take (last - first) (drop first (v.blocks b)))
  pub countable : (first last lo hi : ℕ) (listed : List Bool) → first ≤ last → last ≤ length v.index.heads
      → AreCountable (counted_rows (v.blocks b) first last lo hi listed ++ filter (is_chosen lo hi listed) v.held)

-- whatever store it is read from, and over the bytes that its index stands for; no more blocks hold words that begin alike, or a word, than the
-- index has of them, and each of these holds one of the index
pub record IsSource (v : SourceView) : Type 0 where
  pub index : IsIndex v.index
  pub few_docs : v.docs ≤ MAX_DOCS
  pub long : length v.present ≡ v.docs
  pub few_words : length v.words ≤ MAX_WORDS
  pub ascending : IsStrictlySortedBy (slice_cmp nat_cmp) v.words
  pub texts : All IsUtf8 v.words
  pub held : All (IsIn v) v.held
  pub prefix_met : (p : List ℕ) (lo hi : ℕ) → IsRange v.words p lo hi → met_in v lo hi ≤ met_prefix (division v.index) p
  pub word_met : (w : List ℕ) (lo hi : ℕ) → IsRangeOf v.words (λ x. bytes_eq x w) lo hi → hi ≤ lo + 1 → (list_any (bytes_eq w) v.words ≡ false → lo ≡ hi)
      → met_in v lo hi ≤ met_word (division v.index) w
  pub prefix_held : (p : List ℕ) (lo hi : ℕ) → IsRange v.words p lo hi → HoldMet v lo hi (begins p)
  pub word_held : (w : List ℕ) (lo hi : ℕ) → IsRangeOf v.words (λ x. bytes_eq x w) lo hi → HoldMet v lo hi (λ x. bytes_eq x w)
  pub told : (b : List ℕ) → StandsFor b v.index → IsTold v b

-- whatever store it was opened over
pub record CanRead (told : Option (List ℕ)) (v : SourceView) : Type 0 where
  pub source : IsSource v
  pub fits : HasAllBlocks told v.index
