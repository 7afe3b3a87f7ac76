-- Two images as one: that of the corpus in which both are joined.
--
-- Source: this engine's own.
--
--   MergeRefusal             why images aren't merged: targets_differ, with both; weights_differ, with both; too_many_docs,
--                            titles_too_large, too_many_rows, too_many_words
--   are_same v w             the same weight in each column
--   words_of_both a b        the distinct words of both, by bytes
--   merge_refusal a b        the first refusal; None where the images may be merged
--   merge_words r            why images aren't merged, in words
--   IsMerge a b i            i is the image of the corpus in which those of a and b are joined, for their target and weights
--   MergesAreOne             the law that no images have two merges
--   MergesAreJoined          the law that the merge of the images of lists of documents is the image of both lists
use Rattle.std.specs.Prelude.{◌≡◌, ℕ, ◌+◌, ◌^◌, Bool, ◌==◌, ◌&&◌, nat_le, nat_lt, List, [], ◌∷◌, ◌++◌, length, Option, codes}
use Rattle.std.specs.Fmt.{decimal}
use Rattle.std.specs.Ordering.{nat_cmp}
use Rattle.std.specs.Cmp.Lexicographic.{slice_cmp}
use Rattle.cs_base.specs.content.Members.{members_in}
use Rattle.cs_base.specs.declared.content.doc.Doc.{Doc}
use Rattle.cs_base.specs.declared.content.limits.TheConstants.{MAX_DOCS, MAX_ROWS, MAX_WORDS}
use Rattle.cs_base.specs.declared.content.scores.Weights.{Weights}
use Rattle.cs_model.specs.Corpus.{IsCorpus, corpus_of}
use Rattle.cs_model.specs.First.{first_reason, unless}
use Rattle.cs_model_changes.specs.Joined.{joined}
use Rattle.cs_model_index.specs.Images.{Image, IsImage, image_corpus, image_posts}
use Rattle.cs_model_index.specs.Layout.{title_bytes}

-- why two images aren't merged
pub data MergeRefusal : Type 0 where
  targets_differ : ℕ → ℕ → MergeRefusal
  weights_differ : Weights → Weights → MergeRefusal
  too_many_docs : MergeRefusal
  titles_too_large : MergeRefusal
  too_many_rows : MergeRefusal
  too_many_words : MergeRefusal

-- the same weight in each column
abbrev pub are_same : Weights → Weights → Bool
are_same v w = (v.title == w.title) && ((v.facet == w.facet) && (v.text == w.text))

-- the words of both images, each once, by bytes; of images without words none
abbrev pub words_of_both : Image → Image → List (List ℕ)
words_of_both a b = members_in (slice_cmp nat_cmp) (a.words ++ b.words)

-- the first refusal of two images: what must be the same in both, then what both have together, of which each has a limit; None where they
-- may be merged, as where each of them is that of the empty corpus, for one target and with the same weights
abbrev pub merge_refusal : Image → Image → Option MergeRefusal
merge_refusal a b = first_reason (
    unless (a.target == b.target) (targets_differ a.target b.target)
    ∷ unless (are_same a.weights b.weights) (weights_differ a.weights b.weights)
    ∷ unless (nat_le (length a.titles + length b.titles) MAX_DOCS) too_many_docs
    ∷ unless (nat_lt (length (title_bytes a.titles) + length (title_bytes b.titles)) (2 ^ 32)) titles_too_large
    ∷ unless (nat_le (length (image_posts a) + length (image_posts b)) MAX_ROWS) too_many_rows
    ∷ unless (nat_le (length (words_of_both a b)) MAX_WORDS) too_many_words
    ∷ [])

-- why two images aren't merged, without an ending
abbrev pub merge_words : MergeRefusal → List ℕ
merge_words (targets_differ s t) = codes "targets " ++ (decimal s ++ (codes " and " ++ (decimal t ++ codes " differ")))
merge_words (weights_differ v w) = codes "weights differ"
merge_words too_many_docs = codes "too many documents"
merge_words titles_too_large = codes "titles too large"
merge_words too_many_rows = codes "too many rows"
merge_words too_many_words = codes "too many distinct words"

-- the image of both corpora as one, the documents of the second behind those of the first, for the target and the weights of both; it is meant where `merge_refusal` is None
abbrev pub IsMerge : Image → Image → Image → Type 0
IsMerge a b i = IsImage (joined (image_corpus a) (image_corpus b)) a.target a.weights i

-- two images have at most one merge
abbrev pub MergesAreOne : Type 0
MergesAreOne = (a b i j : Image) → IsMerge a b i → IsMerge a b j → i ≡ j

-- so an index file of further documents is merged in place of building one of all; either list may be empty
abbrev pub MergesAreJoined : Type 0
MergesAreJoined = (w : Weights) (ds es : List Doc) (target : ℕ) (a b i : Image) → IsCorpus (corpus_of w ds) → IsCorpus (corpus_of w es) → IsImage (corpus_of w ds) target w a → IsImage (corpus_of w es) target w b → IsMerge a b i → IsImage (corpus_of w (ds ++ es)) target w i
