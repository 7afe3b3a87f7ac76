-- Images that are merged, and what a fault says of them.
--
-- Source: this engine's own.
--
--   IsOfFile i             an image that an index file may have: that of its own corpus, with words of the form that collections have
--   AcceptedAreMerged      the law that what is read of an index file is such an image
--   FitTogether a b        the weights are the same, and documents, titles and rows of both are few enough
--   words_refusal a b      the refusal of two images that differ in nothing and fit together, by their words
--   merge_refusal_of e     the refusal that a fault names; None for want of memory
--   NamesRefusal a b e     the first refusal of two images is the one that the fault names; want of memory has no cause
use Rattle.std.specs.Prelude.{◌≡◌, ℕ, ◌+◌, ◌^◌, ◌<◌, ◌≤◌, true, nat_le, List, length, All, MatchOption, Option, Some, None}
use Rattle.cs_base.specs.declared.content.limits.TheConstants.{MAX_DOCS, MAX_ROWS, MAX_WORDS}
use Rattle.cs_model.specs.Corpus.{IsCorpus}
use Rattle.cs_model.specs.First.{unless}
use Rattle.cs_model_index.specs.FileRules.{is_word, IsIndexFile}
use Rattle.cs_model_index.specs.Images.{Image, IsImage, image_corpus, image_posts}
use Rattle.cs_model_index.specs.Layout.{title_bytes}
use Rattle.cs_model_index.specs.Sections.{image_of}
use Rattle.cs_model_index.specs.declared.limits.TheConstants.{MAX_TARGET}
use Rattle.cs_model_merge.specs.Merges.{MergeRefusal, are_same, merge_refusal, targets_differ, titles_too_large, too_many_docs, too_many_rows, too_many_words, weights_differ, words_of_both}
use Rattle.cs_merge.specs.declared.fault.MergeFault.{MergeFault}
use Rattle.cs_merge.specs.declared.fault.MergeFault.TheVariants.{Targets, WeightsDiffer, TooManyDocs, TitlesTooLarge, TooManyRows, TooManyWords, Memory}

-- the image of the empty corpus is one too
pub record IsOfFile (i : Image) : Type 0 where
  pub corpus : IsCorpus (image_corpus i)
  pub image : IsImage (image_corpus i) i.target i.weights i
  pub words : All (λ w. is_word w ≡ true) i.words
  pub target : i.target ≤ MAX_TARGET

-- of bytes, each below 256
abbrev pub AcceptedAreMerged : Type 0
AcceptedAreMerged = (b : List ℕ) → All (λ x. x < 2 ^ 8) b → IsIndexFile b → IsOfFile (image_of b)

-- the weights are the same, and what both have together is within the limits, but for their words
pub record FitTogether (a b : Image) : Type 0 where
  pub weights : are_same a.weights b.weights ≡ true
  pub docs : length a.titles + length b.titles ≤ MAX_DOCS
  pub titles : length (title_bytes a.titles) + length (title_bytes b.titles) < 2 ^ 32
  pub rows : length (image_posts a) + length (image_posts b) ≤ MAX_ROWS

-- None where both together have few distinct words
abbrev pub words_refusal : Image → Image → Option MergeRefusal
words_refusal a b = unless (nat_le (length (words_of_both a b)) MAX_WORDS) too_many_words

-- want of memory names none
abbrev pub merge_refusal_of : MergeFault → Option MergeRefusal
merge_refusal_of (Targets s t) = Some (targets_differ s t)
merge_refusal_of (WeightsDiffer v w) = Some (weights_differ v w)
merge_refusal_of TooManyDocs = Some too_many_docs
merge_refusal_of TitlesTooLarge = Some titles_too_large
merge_refusal_of TooManyRows = Some too_many_rows
merge_refusal_of TooManyWords = Some too_many_words
merge_refusal_of Memory = None

-- where e is no want of memory, there is a refusal
abbrev pub NamesRefusal : Image → Image → MergeFault → Type 0
NamesRefusal a b e = MatchOption (merge_refusal_of e) (Unit {0}) (λ x. merge_refusal a b ≡ Some x)
