-- What ties images, their files and the rules together.
--
-- Source: this engine's own.
--
-- The laws `files` and `accepted_files` say that all of this follows from the laws of blocks.
--
--   HasLimits i           an image whose numbers have room in a file, and whose titles, words and rows are those of a collection
--   AcceptedAreFiles      an index file is the file of the image that is read of it
--   FilesFollowBlocks     that follows from the laws of blocks
--   FilesAreAccepted      the file of an image within the limits is an index file, of which this image is read
--   ImagesFollowBlocks    that follows from the law of blocks
--   AcceptedAreImages     what is read of an index file is the image of its corpus
--   ReadingFollowsBlocks  that follows from the laws of blocks
--   ReadAreCorpora        the corpus that is read of an index file is a corpus
--   ReadCorporaFollowBlocks  that follows from the laws of blocks
use Rattle.std.specs.Prelude.{◌≡◌, ℕ, ◌^◌, ◌<◌, ◌≤◌, Bool, true, List, length, All}
use Rattle.std.specs.List.{sum_by}
use Rattle.std.specs.Str.{IsUtf8}
use Rattle.cs_base.specs.declared.content.limits.TheConstants.{MAX_DOCS, MAX_WORDS, MAX_ROWS, MAX_LINE_BYTES}
use Rattle.cs_base.specs.declared.content.scores.Weights.{Weights}
use Rattle.cs_model.specs.Corpus.{Corpus, IsCorpus}
use Rattle.cs_model.specs.Weights.{AreWeights}
use Rattle.cs_model_index.specs.BlockLaws.{AcceptedAreBlocks, OneReading}
use Rattle.cs_model_index.specs.BlockRules.{is_scored}
use Rattle.cs_model_index.specs.FileRules.{is_word, IsIndexFile}
use Rattle.cs_model_index.specs.Images.{Image, IsImage, image_posts}
use Rattle.cs_model_index.specs.Layout.{title_bytes, file_in}
use Rattle.cs_model_index.specs.Numbered.{word_at}
use Rattle.cs_model_index.specs.Partitions.{is_facet}
use Rattle.cs_model_index.specs.Sections.{header_of, image_of, file_corpus}
use Rattle.cs_model_index.specs.declared.limits.TheConstants.{MAX_TARGET}

-- within the limits of collections, with titles of fewer than 2^32 bytes together; the image of the empty corpus has them for each target from 1 to MAX_TARGET and weights from 1
pub record HasLimits (i : Image) : Type 0 where
  pub few_docs : length i.titles ≤ MAX_DOCS
  pub texts : All IsUtf8 i.titles
  pub short : All (λ t. length t ≤ MAX_LINE_BYTES) i.titles
  pub few_bytes : length (title_bytes i.titles) < 2 ^ 32
  pub few_words : length i.words ≤ MAX_WORDS
  pub words : All (λ w. is_word w ≡ true) i.words
  pub few_rows : sum_by (λ block. length block) i.blocks ≤ MAX_ROWS
  pub known : All (λ p. p.doc < length i.titles) (image_posts i)
  pub scored : All (λ p. is_scored i.weights (is_facet (word_at i.words p.word)) p ≡ true) (image_posts i)
  pub weights : AreWeights i.weights
  pub target_from : 1 ≤ i.target
  pub target_to : i.target ≤ MAX_TARGET

-- of bytes, each below 256
abbrev pub AcceptedAreFiles : Type 0
AcceptedAreFiles = (b : List ℕ) → All (λ x. x < 2 ^ 8) b → IsIndexFile b → file_in (header_of b).two (image_of b) ≡ b

-- it follows from the laws of blocks
abbrev pub FilesFollowBlocks : Type 0
FilesFollowBlocks = AcceptedAreBlocks → OneReading → AcceptedAreFiles

-- and no other image is read of it
abbrev pub FilesAreAccepted : Type 0
FilesAreAccepted = (two : Bool) (k : Corpus) (target : ℕ) (w : Weights) (i : Image) → IsCorpus k → IsImage k target w i → HasLimits i → IsIndexFile (file_in two i) × (image_of (file_in two i) ≡ i)

-- it follows from the law of blocks
abbrev pub ImagesFollowBlocks : Type 0
ImagesFollowBlocks = OneReading → FilesAreAccepted

-- so the rules accept the files of images alone
abbrev pub AcceptedAreImages : Type 0
AcceptedAreImages = (b : List ℕ) → All (λ x. x < 2 ^ 8) b → IsIndexFile b → IsImage (file_corpus b) (image_of b).target (image_of b).weights (image_of b)

-- it follows from the laws of blocks
abbrev pub ReadingFollowsBlocks : Type 0
ReadingFollowsBlocks = AcceptedAreBlocks → OneReading → AcceptedAreImages

-- its rows are named by document, position and word, and each row's document has a title
abbrev pub ReadAreCorpora : Type 0
ReadAreCorpora = (b : List ℕ) → All (λ x. x < 2 ^ 8) b → IsIndexFile b → IsCorpus (file_corpus b)

-- it follows from the laws of blocks
abbrev pub ReadCorporaFollowBlocks : Type 0
ReadCorporaFollowBlocks = AcceptedAreBlocks → OneReading → ReadAreCorpora
