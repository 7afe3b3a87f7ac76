-- What is read of the bytes of an index file, whatever they are: its sections by the numbers of its header, and what stands in them.
--
-- Source: none of its own; Layout says what each section is.
--
-- A byte that isn't there counts as 0, and a section past the end has no bytes. What is read counts only where the rules hold.
--
--   number_at bytes at          the number of four bytes at a place; 0 past the end
--   header_of b                 the numbers of the header
--   Sections, sections h rest   the bytes behind the header, and these cut by the header's numbers
--   offsets_len h, directory_len h      how many bytes title offsets and directory have
--   vocabulary_at, offsets_at h, titles_at h, directory_at h, blocks_at h, size_by h    where each section begins, and where the file ends
--   vocabulary_in k bytes            at most k words, each behind its length
--   numbers_in k bytes          k numbers
--   title_between, titles_in offsets bytes   the titles between each two offsets
--   head_in words entry         what an entry of the directory says of a block of these words, its bounds aside
--   heads_in e words k bytes    the same of k entries of e bytes each
--   heads_by heads bytes        the same heads with the bounds of the rows of their blocks
--   bounds_in e k bytes         the bounds that k entries of e bytes each name
--   blocks_in heads bytes       the posts of each block
--   Contents, contents_of b       all that is read
--   image_of b                  the image that is read
--   file_corpus b               and its corpus
use Rattle.std.specs.Prelude.{ℕ, zero, suc, ◌+◌, ◌-◌, ◌*◌, List, [], ◌∷◌, map, take, drop}
use Rattle.std.specs.Int.{w32, from_be_bytes}
use Rattle.std.specs.List.{zip}
use Rattle.std.specs.Str.{bytes_eq}
use Rattle.cs_base.specs.declared.index.block.BlockHead.{BlockHead}
use Rattle.cs_base.specs.declared.content.doc.Post.{Post}
use Rattle.cs_model.specs.Corpus.{Corpus}
use Rattle.cs_model_index.specs.BlockRules.{rows_read}
use Rattle.cs_model_index.specs.Images.{Image, image_corpus}
use Rattle.cs_model_index.specs.BlockBounds.{bounded}
use Rattle.cs_model_index.specs.Layout.{Header, MAGIC2, entry_size}
use Rattle.cs_model_index.specs.Numbered.{word_at}
use Rattle.cs_model_index.specs.WeightsField.{weights_of}
use Rattle.cs_model_index.specs.Partitions.{is_facet}
use Rattle.cs_model_index.specs.declared.limits.TheConstants.{HEADER_BYTES, NUMBER_BYTES}

-- ---- the header
-- the highest byte first; 0 past the end
unfoldable pub number_at : List ℕ → ℕ → ℕ
number_at bytes at = from_be_bytes w32 (take NUMBER_BYTES (drop at bytes))

-- the version by the first eight bytes, and the numbers behind them; each 0 where there are no bytes
abbrev pub header_of : List ℕ → Header
header_of b = record {
  two = bytes_eq (take 8 b) MAGIC2;
  docs = number_at b 8;
  words = number_at b 12;
  rows = number_at b 16;
  blocks = number_at b 20;
  target = number_at b 24;
  vocabulary_len = number_at b 28;
  titles_len = number_at b 32;
  blocks_len = number_at b 36;
  weights = number_at b 40;
}

-- ---- the sections
-- one offset more than there are documents
abbrev pub offsets_len : Header → ℕ
offsets_len h = NUMBER_BYTES * (h.docs + 1)

-- one entry for each block
abbrev pub directory_len : Header → ℕ
directory_len h = entry_size h.two * h.blocks

-- directly behind the header
abbrev pub vocabulary_at : ℕ
vocabulary_at = HEADER_BYTES

-- behind the vocabulary
abbrev pub offsets_at : Header → ℕ
offsets_at h = vocabulary_at + h.vocabulary_len

-- behind the title offsets
abbrev pub titles_at : Header → ℕ
titles_at h = offsets_at h + offsets_len h

-- behind the titles
abbrev pub directory_at : Header → ℕ
directory_at h = titles_at h + h.titles_len

-- behind the directory
abbrev pub blocks_at : Header → ℕ
blocks_at h = directory_at h + directory_len h

-- the end of the blocks
abbrev pub size_by : Header → ℕ
size_by h = blocks_at h + h.blocks_len

-- the bytes of each section behind the header
pub record Sections : Type 0 where
  pub vocabulary : List ℕ
  pub offsets : List ℕ
  pub titles : List ℕ
  pub directory : List ℕ
  pub blocks : List ℕ

-- the bytes behind the header, cut by its numbers; of no bytes each section is empty
abbrev pub sections : Header → List ℕ → Sections
sections h rest =
    let behind_words = drop h.vocabulary_len rest in
    let behind_offsets = drop (offsets_len h) behind_words in
    let behind_titles = drop h.titles_len behind_offsets in
    record {
      vocabulary = take h.vocabulary_len rest;
      offsets = take (offsets_len h) behind_words;
      titles = take h.titles_len behind_offsets;
      directory = take (directory_len h) behind_titles;
      blocks = drop (directory_len h) behind_titles;
    }

-- ---- what stands in them
-- the words behind the next k length bytes; fewer where the bytes end
unfoldable pub vocabulary_in : ℕ → List ℕ → List (List ℕ)
vocabulary_in zero bytes = []
vocabulary_in (suc k) [] = []
vocabulary_in (suc k) (n ∷ bytes) = take n bytes ∷ vocabulary_in k (drop n bytes)

-- the next k numbers, as many even of no bytes
unfoldable pub numbers_in : ℕ → List ℕ → List ℕ
numbers_in zero bytes = []
numbers_in (suc k) bytes = number_at bytes 0 ∷ numbers_in k (drop NUMBER_BYTES bytes)

-- from one place up to another among the titles' bytes; nothing where the second isn't behind the first
abbrev pub title_between : List ℕ → ℕ × ℕ → List ℕ
title_between bytes p = take (p.1 - p.0) (drop p.0 bytes)

-- the titles that lie between each two offsets; of one offset none
abbrev pub titles_in : List ℕ → List ℕ → List (List ℕ)
titles_in offsets bytes = map (title_between bytes) (zip offsets (drop 1 offsets))

-- the first four numbers of an entry; the kind is that of the block's first word, and the bounds are 0 until they are put in
abbrev pub head_in : List (List ℕ) → List ℕ → BlockHead
head_in words entry = record { lo = number_at entry 0; words = number_at entry 4; rows = number_at entry 8; len = number_at entry 12; facet = is_facet (word_at words (number_at entry 0)); least = 0; greatest = 0 }

-- the next k entries, as many even of no bytes
unfoldable pub heads_in : ℕ → List (List ℕ) → ℕ → List ℕ → List BlockHead
heads_in e words zero bytes = []
heads_in e words (suc k) bytes = head_in words bytes ∷ heads_in e words k (drop e bytes)

-- with the bounds of the rows of their blocks, which lie one after the other; of no heads there are none
unfoldable pub heads_by : List BlockHead → List ℕ → List BlockHead
heads_by [] bytes = []
heads_by (h ∷ hs) bytes = bounded h (rows_read h (take h.len bytes)) ∷ heads_by hs (drop h.len bytes)

-- the two last numbers of the next k entries; they count only in version 2
unfoldable pub bounds_in : ℕ → ℕ → List ℕ → List (ℕ × ℕ)
bounds_in e zero bytes = []
bounds_in e (suc k) bytes = (number_at bytes 16, number_at bytes 20) ∷ bounds_in e k (drop e bytes)

-- the blocks lie one after the other; of no heads there are none
unfoldable pub blocks_in : List BlockHead → List ℕ → List (List Post)
blocks_in [] bytes = []
blocks_in (h ∷ hs) bytes = rows_read h (take h.len bytes) ∷ blocks_in hs (drop h.len bytes)

-- ---- all of it
-- the header, the bytes of the sections, and what stands in them
pub record Contents : Type 0 where
  pub header : Header
  pub bytes : Sections
  pub words : List (List ℕ)
  pub offsets : List ℕ
  pub titles : List (List ℕ)
  pub heads : List BlockHead
  pub bounds : List (ℕ × ℕ)
  pub blocks : List (List Post)

-- what a header and the bytes behind it give
abbrev pub contents_by : Header → Sections → Contents
contents_by h s =
    let words = vocabulary_in h.words s.vocabulary in
    let offsets = numbers_in (h.docs + 1) s.offsets in
    let heads = heads_by (heads_in (entry_size h.two) words h.blocks s.directory) s.blocks in
    record {
      header = h;
      bytes = s;
      words = words;
      offsets = offsets;
      titles = titles_in offsets s.titles;
      heads = heads;
      bounds = bounds_in (entry_size h.two) h.blocks s.directory;
      blocks = blocks_in heads s.blocks;
    }

-- of no bytes a header of zeros, and no word, title or block
abbrev pub contents_of : List ℕ → Contents
contents_of b = contents_by (header_of b) (sections (header_of b) (drop HEADER_BYTES b))

-- the image that is read; it counts only where the bytes are an index file
unfoldable pub image_of : List ℕ → Image
image_of b =
    let r = contents_of b in
    record { titles = r.titles; words = r.words; heads = r.heads; blocks = r.blocks; target = r.header.target; weights = weights_of r.header.weights }

-- the corpus that is read; it counts only where the bytes are an index file
abbrev pub file_corpus : List ℕ → Corpus
file_corpus b = image_corpus (image_of b)
