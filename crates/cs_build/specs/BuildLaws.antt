-- What a collection keeps, so that its image has a file; and what that file is.
--
-- Source: this engine's own.
--
--   TitlesAreParts          titles together have at most as many bytes as the collection
--   TitlesHaveFewBytes      so those of a collection that isn't refused have few enough for a file
--   CollectionsKeepLimits   weights, titles and rows of a collection that isn't refused keep the limits
--   Made docs rows target w i   i is the image of documents and rows, few enough of both and of words
--   ImagesHaveLimits        it is within the limits of files, where documents and rows keep them
--   FilesOfCollections      the file of a collection's image is an index file, of which the image and the corpus are read
use Rattle.std.specs.Prelude.{◌≡◌, ℕ, ◌^◌, ◌<◌, ◌≤◌, List, length, map, None}
use Rattle.cs_base.specs.declared.content.doc.Doc.{Doc}
use Rattle.cs_base.specs.declared.content.doc.Row.{Row}
use Rattle.cs_base.specs.declared.content.limits.TheConstants.{MAX_DOCS, MAX_ROWS, MAX_WORDS}
use Rattle.cs_base.specs.declared.content.scores.Weights.{Weights}
use Rattle.cs_model.specs.Collection.{docs_refusal, documents, weights}
use Rattle.cs_model.specs.Corpus.{IsCorpus, corpus, distinct_words, refusal, rows_of, title_of}
use Rattle.cs_model_index.specs.FileLaws.{HasLimits}
use Rattle.cs_model_index.specs.FileRules.{IsIndexFile}
use Rattle.cs_model_index.specs.Images.{Image, IsImage}
use Rattle.cs_model_index.specs.Layout.{file, title_bytes}
use Rattle.cs_model_index.specs.Sections.{image_of, file_corpus}
use Rattle.cs_model_index.specs.declared.limits.TheConstants.{MAX_TARGET}
use Rattle.cs_build.specs.Building.{corpus_from, KeepLimits}

-- of any bytes; of no bytes there are no titles
abbrev pub TitlesAreParts : Type 0
TitlesAreParts = (c : List ℕ) → length (title_bytes (map title_of (documents c))) ≤ length c

-- a place in the titles is a number of four bytes
abbrev pub TitlesHaveFewBytes : Type 0
TitlesHaveFewBytes = (c : List ℕ) → docs_refusal c ≡ None → length (title_bytes (map title_of (documents c))) < 2 ^ 32

-- so do its weights and its rows, however many they are
abbrev pub CollectionsKeepLimits : Type 0
CollectionsKeepLimits = (c : List ℕ) → docs_refusal c ≡ None → KeepLimits (weights c) (map title_of (documents c)) (rows_of (weights c) (documents c))

-- rows may come in any order; of no documents and no rows the image of the empty corpus
pub record Made (docs : List Doc) (rows : List Row) (target : ℕ) (w : Weights) (i : Image) : Type 0 where
  pub corpus : IsCorpus (corpus_from docs rows)
  pub image : IsImage (corpus_from docs rows) target w i
  pub few_docs : length docs ≤ MAX_DOCS
  pub few_rows : length rows ≤ MAX_ROWS
  pub few_words : length (distinct_words rows) ≤ MAX_WORDS
  pub target_from : 1 ≤ target
  pub target_to : target ≤ MAX_TARGET

-- so such an image has a file that is accepted
abbrev pub ImagesHaveLimits : Type 0
ImagesHaveLimits = (docs : List Doc) (rows : List Row) (target : ℕ) (w : Weights) (i : Image) → Made docs rows target w i → KeepLimits w (map title_of docs) rows → HasLimits i

-- of an accepted collection, for each target from 1 to MAX_TARGET
abbrev pub FilesOfCollections : Type 0
FilesOfCollections =
    (c : List ℕ) (target : ℕ) (i : Image) → refusal c ≡ None → IsImage (corpus c) target (weights c) i → 1 ≤ target → target ≤ MAX_TARGET → IsIndexFile (file i) × (image_of (file i) ≡ i) × (file_corpus (file i) ≡ corpus c)
