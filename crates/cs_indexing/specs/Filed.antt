-- The image of a corpus, as the commands make it.
--
-- Source: this engine's own.
--
--   HasFile i        it can be written, and its bytes are an index file, of which it is read
--   HasSizes k docs count    a corpus has so many documents and rows
--   IsFiled k w i    it is an image of the corpus, for the target of index files and the weights w, and of its bytes that corpus is read
use Rattle.std.specs.Prelude.{◌≡◌, ℕ, length}
use Rattle.std.specs.FinMap as map
use Rattle.cs_base.specs.declared.content.scores.Weights.{Weights}
use Rattle.cs_file.specs.Writable.{CanBeWritten}
use Rattle.cs_model.specs.Corpus.{Corpus}
use Rattle.cs_model_index.specs.FileRules.{IsIndexFile}
use Rattle.cs_model_index.specs.Images.{Image, IsImage}
use Rattle.cs_model_index.specs.Layout.{file}
use Rattle.cs_model_index.specs.Sections.{file_corpus, image_of}
use Rattle.cs_model_index.specs.declared.limits.TheConstants.{TARGET}

-- each of its numbers has room, and the bytes are accepted, those of an empty corpus too
pub record HasFile (i : Image) : Type 0 where
  pub writable : CanBeWritten i
  pub whole : IsIndexFile (file i)
  pub read : image_of (file i) ≡ i

-- what is searched is what was imaged; of an empty corpus it is empty
pub record IsFiled (k : Corpus) (w : Weights) (i : Image) : Type 0 where
  pub image : IsImage k TARGET w i
  pub corpus : file_corpus (file i) ≡ k

-- the titles and the rows of a corpus are so many, of the empty one 0
pub record HasSizes (k : Corpus) (docs count : ℕ) : Type 0 where
  pub documents : docs ≡ length (map.keys k.titles)
  pub rows : count ≡ length k.rows
