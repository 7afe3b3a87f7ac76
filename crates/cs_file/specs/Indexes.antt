-- What is kept of an index file that was opened, and the stores that its blocks and titles are read from.
--
-- Source: this engine's own; `docs/INDEX_FILE.md` has the rules.
--
--   IndexView               what an opened index holds: all of its file but titles and posts
--   index_in b              what is kept of the bytes of an index file
--   block_place i k         the place of block k; behind the last block the file's end
--   title_place i d, title_len i d      where title d begins, and how many bytes it has
--   IsIndex i               what an opened index keeps, whatever store it was read from
--   ArePlaces heads places    where the blocks of these heads lie, counted from the first block
--   IsKeptIndex i ps             an opened index, and where its blocks lie
--   StandsFor b i           the bytes are an index file, and the index is what is kept of it
--   HasAllBlocks told i             the store tells nothing, or has all blocks
--   AreMet heads lo hi first last    the blocks from `first` up to `last` are those that hold a word from lo up to hi
--   block_posts b k, title_in b d    the posts of block k and the title of document d that are read of the bytes
--   CausedReads read before now      a count of failures rose exactly where the answer is a failed read
use Rattle.std.specs.Prelude.{◌≡◌, ℕ, ◌+◌, ◌-◌, ◌*◌, ◌≤◌, ◌<◌, ◌^◌, Bool, true, false, ◌&&◌, nat_lt, nat_le, List, [], length, take, slice_index_or, All}
use Rattle.std.specs.Prelude.{Option, None}
use Rattle.std.specs.List.{list_all, sum_by}
use Rattle.std.specs.List.Sorted.{IsStrictlySortedBy}
use Rattle.std.specs.Option.{ForSome, unwrap_or}
use Rattle.std.specs.Ordering.{nat_cmp}
use Rattle.std.specs.Cmp.Lexicographic.{slice_cmp}
use Rattle.cs_base.specs.outside.Causes.{Rose}
use Rattle.cs_base.specs.declared.index.block.BlockHead.{BlockHead}
use Rattle.cs_base.specs.declared.content.doc.Post.{Post}
use Rattle.cs_base.specs.declared.content.scores.Weights.{Weights}
use Rattle.cs_base.specs.declared.content.limits.TheConstants.{MAX_DOCS, MAX_WORDS, MAX_ROWS}
use Rattle.cs_model.specs.Weights.{AreWeights}
use Rattle.cs_model_index.specs.FileRules.{IsIndexFile, is_word, is_onward, is_joined, is_of_one_kind, is_sized, laid, last_value, words_end}
use Rattle.cs_model_index.specs.Layout.{entry_size, vocabulary_bytes}
use Rattle.cs_model_index.specs.Numbered.{word_at}
use Rattle.cs_model_index.specs.Partitions.{is_facet}
use Rattle.cs_model_index.specs.Sections.{contents_of, titles_at, blocks_at, image_of}
use Rattle.cs_model_index.specs.WeightsField.{weights_of}
use Rattle.cs_model_index.specs.declared.limits.TheConstants.{HEADER_BYTES, NUMBER_BYTES, ENTRY_BYTES, MAX_TARGET}

-- the number of documents, words by number, where titles begin and the last ends, the heads of the blocks, the target, the weights of
-- the rows, and the places of the first title and the first block
pub record IndexView : Type 0 where
  pub docs : ℕ
  pub words : List (List ℕ)
  pub offsets : List ℕ
  pub heads : List BlockHead
  pub target : ℕ
  pub weights : Weights
  pub titles_at : ℕ
  pub blocks_at : ℕ

-- what is kept of bytes, which counts only where they are an index file
unfoldable pub index_in : List ℕ → IndexView
index_in b =
    let r = contents_of b in
    record {
      docs = r.header.docs;
      words = r.words;
      offsets = r.offsets;
      heads = r.heads;
      target = r.header.target;
      weights = weights_of r.header.weights;
      titles_at = titles_at r.header;
      blocks_at = blocks_at r.header;
    }

-- where the titles end among their bytes; 0 where there is no offset
abbrev pub titles_end : IndexView → ℕ
titles_end i = unwrap_or (last_value i.offsets) 0

-- the blocks lie one behind the other; that of the first is the place of the blocks
abbrev pub block_place : IndexView → ℕ → ℕ
block_place i k = i.blocks_at + sum_by (λ h. h.len) (take k i.heads)

-- where a title begins, counted from the file's first byte; the place of the first title where there is no such offset
abbrev pub title_place : IndexView → ℕ → ℕ
title_place i d = i.titles_at + slice_index_or i.offsets d 0

-- how many bytes a title has; none behind the last one
abbrev pub title_len : IndexView → ℕ → ℕ
title_len i d = slice_index_or i.offsets (d + 1) 0 - slice_index_or i.offsets d 0

-- the numbers are within their limits, the words are words in order, the offsets go on, and the blocks have all words, each few
-- and of one kind, and as many rows and bytes as they may have; the places are those of the layout of one of the two
-- versions, and have numbers of 64 bits; where entries lie doesn't count for joints
pub record IsIndex (i : IndexView) : Type 0 where
  pub few_docs : i.docs ≤ MAX_DOCS
  pub few_words : length i.words ≤ MAX_WORDS
  pub words : All (λ w. is_word w ≡ true) i.words
  pub ascending : IsStrictlySortedBy (slice_cmp nat_cmp) i.words
  pub target_from : 1 ≤ i.target
  pub target_to : i.target ≤ MAX_TARGET
  pub weights : AreWeights i.weights
  pub offsets : length i.offsets ≡ i.docs + 1
  pub onward : list_all (λ p. is_onward p.last p.value) (laid (λ o. NUMBER_BYTES) 0 None i.offsets) ≡ true
  pub joined : list_all (λ p. is_joined p.last p.value) (laid (λ h. ENTRY_BYTES) 0 None i.heads) ≡ true
  pub end : words_end (last_value i.heads) ≡ length i.words
  pub kinds : list_all (is_of_one_kind i.words) i.heads ≡ true
  pub facets : All (λ h. h.facet ≡ is_facet (word_at i.words h.lo)) i.heads
  pub sized : list_all is_sized i.heads ≡ true
  pub few_rows : sum_by (λ h. h.rows) i.heads ≤ MAX_ROWS
  pub titles_place : i.titles_at ≡ HEADER_BYTES + length (vocabulary_bytes i.words) + NUMBER_BYTES * (i.docs + 1)
  pub blocks_place : (two : Bool) × (i.blocks_at ≡ i.titles_at + titles_end i + entry_size two * length i.heads)
  pub small : block_place i (length i.heads) < 2 ^ 63

-- one for each block: the bytes of the blocks before it
pub record ArePlaces (heads : List BlockHead) (places : List ℕ) : Type 0 where
  pub count : length places ≡ length heads
  pub each : (k : ℕ) → k < length heads → slice_index_or places k 0 ≡ sum_by (λ h. h.len) (take k heads)

-- what an opened index keeps, with the places of its blocks
pub record IsKeptIndex (i : IndexView) (ps : List ℕ) : Type 0 where
  pub index : IsIndex i
  pub places : ArePlaces i.heads ps

-- the bytes are an index file, and the index is what is kept of it; no bytes stand for one
pub record StandsFor (b : List ℕ) (i : IndexView) : Type 0 where
  pub bytes : All (λ x. x < 2 ^ 8) b
  pub accepted : IsIndexFile b
  pub index : i ≡ index_in b

-- the store tells nothing, or has at least as many bytes as titles and blocks need
abbrev pub HasAllBlocks : Option (List ℕ) → IndexView → Type 0
HasAllBlocks told i = ForSome told (λ b. block_place i (length i.heads) ≤ length b)

-- whether a block holds a word from number lo up to hi, hi left out
abbrev pub is_met : ℕ → ℕ → BlockHead → Bool
is_met lo hi h = nat_lt lo (h.lo + h.words) && (nat_lt h.lo hi && nat_lt lo hi)

-- the blocks that hold a word from lo up to hi are those from number `first` up to `last`, `last` left out; both are 0 where lo is hi
pub record AreMet (heads : List BlockHead) (lo hi first last : ℕ) : Type 0 where
  pub ordered : first ≤ last
  pub within : last ≤ length heads
  pub met : (k : ℕ) (d : BlockHead) → k < length heads → is_met lo hi (slice_index_or heads k d) ≡ (nat_le first k && nat_lt k last)
  pub none : lo ≡ hi → (first ≡ 0) × (last ≡ 0)

-- the posts of block k that are read of bytes; none behind the last block
abbrev pub block_posts : List ℕ → ℕ → List Post
block_posts b k = slice_index_or (image_of b).blocks k []

-- the title of document d that is read of bytes; the empty text behind the last document
abbrev pub title_in : List ℕ → ℕ → List ℕ
title_in b d = slice_index_or (image_of b).titles d []

-- where the answer is a failed read the count of failures rose, and else it is as it was; it never falls
pub record CausedReads (read : Bool) (before now : ℕ) : Type 0 where
  pub later : before ≤ now
  pub quiet : read ≡ false → now ≡ before
  pub failed : read ≡ true → Rose before now
