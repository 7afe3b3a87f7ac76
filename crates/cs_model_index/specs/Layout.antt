-- The bytes of an image: header, vocabulary, title offsets, titles, directory and blocks, one behind the other without gaps. Files are of
-- two versions: in version 2 the directory has the bounds of each block too. An image says nothing of versions.
--
-- Source: this engine's own.
--
--   number_bytes n            a number of four bytes
--   Header                    whether the file is of version 2, and the numbers of the header; `weights` is the one that stands for the weights of rows
--   magic two                 the eight bytes that an index file of a version begins with
--   MAGIC, MAGIC2             those of version 1 and of version 2
--   entry_size two            how many bytes the directory has for a block
--   header_bytes h            the header
--   vocabulary_bytes words    for each word a byte with its length and its bytes; of no words no bytes
--   offsets_from at titles    where each title begins, and where the last one ends, the first beginning at `at`
--   offset_bytes titles       these numbers; of no titles the number 0
--   title_bytes titles        the titles one after the other; of no titles no bytes
--   entry_bytes two head      what the directory says of a block
--   directory_bytes two heads the same of all blocks; of no blocks no bytes
--   blocks_bytes heads blocks the bytes of all blocks; of no blocks no bytes
--   header_of_image two i     the header of an image
--   file_in two i             the bytes of an image in version 2 or in version 1
--   file i, file1 i           its bytes in version 2, and in version 1
--
-- Numbers are unsigned, of four bytes with the high byte first.
use Rattle.std.specs.Prelude.{ℕ, ◌+◌, Bool, true, false, if◌then◌else◌, List, [], ◌∷◌, ◌++◌, length, flat_map}
use Rattle.std.specs.Int.{w32, to_be_bytes}
use Rattle.std.specs.List.{concat, sum_by, zip}
use Rattle.cs_base.specs.declared.index.block.BlockHead.{BlockHead}
use Rattle.cs_base.specs.declared.content.doc.Post.{Post}
use Rattle.cs_model_index.specs.Blocks.{block_bytes}
use Rattle.cs_model_index.specs.Images.{Image}
use Rattle.cs_model_index.specs.WeightsField.{field_of}
use Rattle.cs_model_index.specs.declared.limits.TheConstants.{ENTRY_BYTES, BOUNDED_ENTRY_BYTES}

-- the highest byte first
abbrev pub number_bytes : ℕ → List ℕ
number_bytes n = to_be_bytes w32 n

-- ---- the header
-- whether it is of version 2; how many documents, words, rows and blocks; the target; how many bytes the vocabulary, the titles and the blocks have; and the number that stands for the weights of rows
pub record Header : Type 0 where
  pub two : Bool
  pub docs : ℕ
  pub words : ℕ
  pub rows : ℕ
  pub blocks : ℕ
  pub target : ℕ
  pub vocabulary_len : ℕ
  pub titles_len : ℕ
  pub blocks_len : ℕ
  pub weights : ℕ

-- `HYBIDX2` and LF, or `HYBIDX1` and LF
abbrev pub magic : Bool → List ℕ
magic two = 72 ∷ 89 ∷ 66 ∷ 73 ∷ 68 ∷ 88 ∷ (if two then 50 else 49) ∷ 10 ∷ []

-- of version 1
abbrev pub MAGIC : List ℕ
MAGIC = magic false

-- of version 2
abbrev pub MAGIC2 : List ℕ
MAGIC2 = magic true

-- how many bytes the directory has for a block, in version 2 or in version 1
unfoldable pub entry_size : Bool → ℕ
entry_size two = if two then BOUNDED_ENTRY_BYTES else ENTRY_BYTES

-- the numbers of a header, in the order of its fields
abbrev pub header_numbers : Header → List ℕ
header_numbers h = h.docs ∷ h.words ∷ h.rows ∷ h.blocks ∷ h.target ∷ h.vocabulary_len ∷ h.titles_len ∷ h.blocks_len ∷ h.weights ∷ []

-- HEADER_BYTES of them
unfoldable pub header_bytes : Header → List ℕ
header_bytes h = magic h.two ++ flat_map number_bytes (header_numbers h)

-- ---- the sections
-- a word has at most MAX_WORD_BYTES bytes, so its length is one byte; of no words no bytes
unfoldable pub vocabulary_bytes : List (List ℕ) → List ℕ
vocabulary_bytes words = flat_map (λ w. length w ∷ w) words

-- where each title begins, and where the last ends; of no titles the first place alone
unfoldable pub offsets_from : ℕ → List (List ℕ) → List ℕ
offsets_from at [] = at ∷ []
offsets_from at (t ∷ titles) = at ∷ offsets_from (at + length t) titles

-- counted from the first title's first byte, one number more than there are titles
unfoldable pub offset_bytes : List (List ℕ) → List ℕ
offset_bytes titles = flat_map number_bytes (offsets_from 0 titles)

-- in the order of the documents; of no titles no bytes
abbrev pub title_bytes : List (List ℕ) → List ℕ
title_bytes titles = concat titles

-- the number of its first word, and how many words, rows and bytes it has, in version 2 its bounds behind them; its kind isn't written
abbrev pub entry_bytes : Bool → BlockHead → List ℕ
entry_bytes two head = flat_map number_bytes (head.lo ∷ head.words ∷ head.rows ∷ head.len ∷ (if two then head.least ∷ head.greatest ∷ [] else []))

-- in the order of the blocks; of no blocks no bytes
unfoldable pub directory_bytes : Bool → List BlockHead → List ℕ
directory_bytes two heads = flat_map (entry_bytes two) heads

-- each block's words counted from its first; of no blocks no bytes
unfoldable pub blocks_bytes : List BlockHead → List (List Post) → List ℕ
blocks_bytes heads blocks = flat_map (λ p. block_bytes p.1 p.0.lo) (zip heads blocks)

-- ---- the file
-- what there is of each, and the bytes of the sections that the numbers don't give
abbrev pub header_of_image : Bool → Image → Header
header_of_image two i = record {
  two = two;
  docs = length i.titles;
  words = length i.words;
  rows = sum_by (λ block. length block) i.blocks;
  blocks = length i.blocks;
  target = i.target;
  vocabulary_len = length (vocabulary_bytes i.words);
  titles_len = length (title_bytes i.titles);
  blocks_len = length (blocks_bytes i.heads i.blocks);
  weights = field_of i.weights;
}

-- the sections one behind the other; of the image with no title and no word header and one offset
unfoldable pub file_in : Bool → Image → List ℕ
file_in two i =
    header_bytes (header_of_image two i) ++ (vocabulary_bytes i.words ++ (offset_bytes i.titles ++ (title_bytes i.titles ++ (directory_bytes two i.heads ++ blocks_bytes i.heads i.blocks))))

-- in version 2
abbrev pub file : Image → List ℕ
file i = file_in true i

-- in version 1
abbrev pub file1 : Image → List ℕ
file1 i = file_in false i
