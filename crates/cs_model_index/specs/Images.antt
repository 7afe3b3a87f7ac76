-- The image of a corpus: what an index file holds, as titles, words and blocks of posts.
--
-- Source: this engine's own.
--
--   Image                     titles by document from 0, words by number, and of each block its head and its posts, in the
--                             order of the file; the target, and the weights of the rows
--   count_in rows w           how many rows have a word; 0 for a word that isn't there
--   block_of words rows run   the posts of the rows that have a word of a run, in the order of the rows
--   head_of lo run block      the head of the block of a run whose first word has the number lo
--   heads_from lo runs        the same of runs with their blocks, one behind the other
--   image_by titles rows runs target w    the image of titles and rows, by the runs of their words
--   IsImage k target w i      i is the image of the corpus k for a target, and has the weights w, whatever the scores of k's rows are; of the empty corpus it has
--                             no words and no blocks
--   image_posts i             the posts of all blocks
--   image_rows i              the rows that they stand for
--   image_corpus i            the corpus that an image holds
--   ImagesAreOne              the law that no corpus has two images for one target and weights
--   ImagesExist               the law that a corpus whose documents are numbered from 0 has one
--   ImagesKeepCorpora         the law that the corpus of a corpus's image is that corpus
use Rattle.std.specs.Prelude.{◌≡◌, ℕ, ◌+◌, List, [], ◌∷◌, map, filter, length, flat_map}
use Rattle.std.specs.List.{list_any, zip}
use Rattle.std.specs.Str.{bytes_eq}
use Rattle.cs_base.specs.content.Members.{members_in}
use Rattle.cs_base.specs.content.Orders.{by_row}
use Rattle.cs_base.specs.declared.index.block.BlockHead.{BlockHead}
use Rattle.cs_base.specs.declared.content.doc.Post.{Post}
use Rattle.cs_base.specs.declared.content.doc.Row.{Row}
use Rattle.cs_base.specs.declared.content.scores.Weights.{Weights}
use Rattle.cs_model.specs.Corpus.{Corpus, IsCorpus, by_number, distinct_words}
use Rattle.cs_model_index.specs.Blocks.{block_bytes}
use Rattle.cs_model_index.specs.BlockBounds.{least_of, greatest_of}
use Rattle.cs_model_index.specs.Numbered.{word_at, numbered, rows_at}
use Rattle.cs_model_index.specs.Partitions.{Count, is_facet, IsPartition}

-- what an index file holds; of the empty corpus a target and weights alone
pub record Image : Type 0 where
  pub titles : List (List ℕ)
  pub words : List (List ℕ)
  pub heads : List BlockHead
  pub blocks : List (List Post)
  pub target : ℕ
  pub weights : Weights

-- how many rows have the word; 0 where none has
abbrev pub count_in : List Row → Count
count_in rows w = length (filter (λ r. bytes_eq r.word w) rows)

-- the posts of the rows whose word is one of the run's, in the order of the rows; of no rows none
abbrev pub block_of : List (List ℕ) → List Row → List (List ℕ) → List Post
block_of words rows run = numbered words (filter (λ r. list_any (bytes_eq r.word) run) rows)

-- the number of its first word, how many words, rows and bytes it has, whether they are facet words, and the documents of its first and last row
abbrev pub head_of : ℕ → List (List ℕ) → List Post → BlockHead
head_of lo run block = record { lo = lo; words = length run; rows = length block; len = length (block_bytes block lo); facet = is_facet (word_at run 0); least = least_of block; greatest = greatest_of block }

-- the first run's first word has the number lo, and each next run goes on where the one before ends; of no runs none
unfoldable pub heads_from : ℕ → List (List (List ℕ) × List Post) → List BlockHead
heads_from lo [] = []
heads_from lo (p ∷ ps) = head_of lo p.0 p.1 ∷ heads_from (lo + length p.0) ps

-- with the words of the runs, and a block for each run; of no runs it has no word and no block
abbrev pub image_by : List (List ℕ) → List Row → List (List (List ℕ)) → ℕ → Weights → Image
image_by titles rows runs target w =
    let words = flat_map (λ run. run) runs in
    let blocks = map (block_of words rows) runs in
    record { titles = titles; words = words; heads = heads_from 0 (zip runs blocks); blocks = blocks; target = target; weights = w }

-- by the one partition of the corpus's words; its documents are numbered from 0 without gaps
pub record IsImage (k : Corpus) (target : ℕ) (w : Weights) (i : Image) : Type 0 where
  pub titles : by_number i.titles ≡ k.titles
  pub runs : List (List (List ℕ))
  pub parted : IsPartition target (count_in k.rows) (distinct_words k.rows) runs
  pub made : i ≡ image_by i.titles k.rows runs target w

-- block by block; of an image with no block none
abbrev pub image_posts : Image → List Post
image_posts i = flat_map (λ block. block) i.blocks

-- in the order of the posts; of an image with no block none
abbrev pub image_rows : Image → List Row
image_rows i = rows_at i.words (image_posts i)

-- its titles by document, and the rows of all blocks by document, position and word
abbrev pub image_corpus : Image → Corpus
image_corpus i = record { titles = by_number i.titles; rows = members_in by_row (image_rows i) }

-- a corpus, a target and weights have at most one image
abbrev pub ImagesAreOne : Type 0
ImagesAreOne = (k : Corpus) (target : ℕ) (w : Weights) (i j : Image) → IsImage k target w i → IsImage k target w j → i ≡ j

-- and a corpus whose titles are numbered from 0 without gaps has one, for each target and weights
abbrev pub ImagesExist : Type 0
ImagesExist = (k : Corpus) (target : ℕ) (w : Weights) (titles : List (List ℕ)) → by_number titles ≡ k.titles → (i : Image) × IsImage k target w i

-- the image keeps the corpus: no row is lost, and none is added
abbrev pub ImagesKeepCorpora : Type 0
ImagesKeepCorpora = (k : Corpus) (target : ℕ) (w : Weights) (i : Image) → IsCorpus k → IsImage k target w i → image_corpus i ≡ k
