-- The file of an accepted collection's image is an index file, of which the image and the corpus are read.
--
--   blocks_accepted, blocks_read    the laws of blocks, for weights of collections
--   files_of_collections            the law itself
use Rattle.std.proofs.Common.{◌≡◌, ℕ, ◌≤◌, nat_le, List, [], ◌∷◌, length, refl, sym, ap, subst, ◌∙◌, leb-true}
use Rattle.std.specs.Prelude.{true, None}
use Rattle.cs_base.specs.declared.content.doc.Doc.{Doc}
use Rattle.cs_base.specs.declared.content.doc.Row.{Row}
use Rattle.cs_base.specs.declared.content.limits.TheConstants.{MAX_ROWS, MAX_WORDS}
use Rattle.cs_block.proofs.LawsLemmas.{accepted_are_blocks, have_bytes, unique}
use Rattle.cs_docs.proofs.AcceptedCollections.{few_documents}
use Rattle.cs_docs.proofs.CorpusLaws.{corpus_is}
use Rattle.cs_model.specs.Collection.{docs_refusal, documents, too_many_rows, too_many_words, weights}
use Rattle.cs_model.specs.Corpus.{corpus, distinct_words, refusal, rows_of, rows_refusal}
use Rattle.cs_model.specs.First.{unless}
use Rattle.cs_model.proofs.FirstLemmas.{none_first, none_rest, unless_none}
use Rattle.cs_model_index.specs.BlockLaws.{AcceptedAreBlocks, OneReading}
use Rattle.cs_model_index.specs.Images.{Image, IsImage, image_corpus}
use Rattle.cs_model_index.specs.declared.limits.TheConstants.{MAX_TARGET}
use Rattle.cs_model_index.proofs.CorpusLemmas.{corpora_are_kept}
use Rattle.cs_model_index.proofs.ImageLimits.{files_accepted}
use Rattle.cs_build.specs.BuildLaws.{Made, FilesOfCollections}
use Rattle.cs_build.proofs.CollectionLemmas.{collection_made, collection_is}
use Rattle.cs_build.proofs.MadeLemmas.{made_limits}
use Rattle.cs_build.proofs.RowLemmas.{keep_limits}

pub blocks_accepted : AcceptedAreBlocks
blocks_accepted w are = accepted_are_blocks w (have_bytes w are)

pub blocks_read : OneReading
blocks_read w are = unique w (have_bytes w are)

few_rows : (rows : List Row) → rows_refusal rows ≡ None → (length rows ≤ MAX_ROWS) × (length (distinct_words rows) ≤ MAX_WORDS)
few_rows rows h =
    let many = unless (nat_le (length rows) MAX_ROWS) too_many_rows in
    let words = unless (nat_le (length (distinct_words rows)) MAX_WORDS) too_many_words in
    (leb-true _ _ (unless_none _ too_many_rows (none_first many (words ∷ []) h)), leb-true _ _ (unless_none _ too_many_words (none_first words [] (none_rest many (words ∷ []) h))))

-- the image of an accepted collection is one of few documents, rows and words
pub collection_image : (c : List ℕ) (target : ℕ) (i : Image) → refusal c ≡ None → IsImage (corpus c) target (weights c) i → 1 ≤ target → target ≤ MAX_TARGET → Made (documents c) (rows_of (weights c) (documents c)) target (weights c) i
collection_image c target i refused image from to =
    let docs : List Doc = documents c in
    let rows : List Row = rows_of (weights c) docs in
    let accepted : docs_refusal c ≡ None = none_first (docs_refusal c) (rows_refusal rows ∷ []) refused in
    let few = few_rows rows (none_first (rows_refusal rows) [] (none_rest (docs_refusal c) (rows_refusal rows ∷ []) refused)) in
    record {
      corpus = collection_is c docs rows refl refl;
      image = subst (λ k. IsImage k target (weights c) i) (sym (collection_made (weights c) docs rows refl)) image;
      few_docs = few_documents c accepted;
      few_rows = few.0;
      few_words = few.1;
      target_from = from;
      target_to = to;
    }

pub files_of_collections : FilesOfCollections
files_of_collections c target i refused image from to =
    let docs : List Doc = documents c in
    let rows : List Row = rows_of (weights c) docs in
    let accepted : docs_refusal c ≡ None = none_first (docs_refusal c) (rows_refusal rows ∷ []) refused in
    let limits = made_limits docs rows target (weights c) i (collection_image c target i refused image from to) (keep_limits c accepted) in
    let read = files_accepted blocks_read true (corpus c) target (weights c) i (corpus_is c) image limits in
    (read.0, read.1, ap image_corpus read.1 ∙ corpora_are_kept (corpus c) target (weights c) i (corpus_is c) image)
