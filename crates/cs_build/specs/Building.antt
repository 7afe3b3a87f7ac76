-- The corpus that an image is made of, and what makes its file an index file.
--
-- Source: this engine's own.
--
--   corpus_of_rows titles rows      titles by their numbers, and rows in order
--   corpus_from docs rows     the titles of documents by their numbers, and rows that may come in any order
--   KeepLimits w titles rows  titles, words and positions are those of a collection, and scores are those of the weights w
--   build_refusal_of e        the refusal of a collection that the fault e names; None for want of memory
use Rattle.std.specs.Prelude.{◌≡◌, ℕ, ◌^◌, ◌<◌, ◌≤◌, true, List, [], length, All, Option, Some, None}
use Rattle.std.specs.Str.{IsUtf8}
use Rattle.cs_base.specs.content.Members.{members_in}
use Rattle.cs_base.specs.content.Orders.{by_row}
use Rattle.cs_base.specs.declared.content.doc.Doc.{Doc}
use Rattle.cs_base.specs.declared.content.doc.Row.{Row}
use Rattle.cs_base.specs.declared.content.limits.TheConstants.{MAX_LINE_BYTES}
use Rattle.cs_base.specs.declared.content.scores.Weights.{Weights}
use Rattle.cs_model.specs.Collection.{CollectionRefusal, too_many_words}
use Rattle.cs_model.specs.Corpus.{Corpus, by_number, titles_of}
use Rattle.cs_model.specs.Weights.{AreWeights}
use Rattle.cs_model_index.specs.BlockRules.{is_scored}
use Rattle.cs_model_index.specs.FileRules.{is_word}
use Rattle.cs_model_index.specs.Layout.{title_bytes}
use Rattle.cs_model_index.specs.Numbered.{post_of}
use Rattle.cs_model_index.specs.Partitions.{is_facet}
use Rattle.cs_build.specs.declared.fault.BuildFault.{BuildFault}
use Rattle.cs_build.specs.declared.fault.BuildFault.TheVariants.{TooManyWords, Memory}

-- of no titles and no rows the empty corpus
abbrev pub corpus_of_rows : List (List ℕ) → List Row → Corpus
corpus_of_rows titles rows = record { titles = by_number titles; rows = rows }

-- of no documents and no rows the empty corpus; rows that stand more than once count once
abbrev pub corpus_from : List Doc → List Row → Corpus
corpus_from docs rows = record { titles = titles_of docs; rows = members_in by_row rows }

-- weights are such as a collection may have, titles are texts and not too long, words have the form of a collection's words, and each
-- row has the position and the score of its kind; no titles and no rows keep them
pub record KeepLimits (w : Weights) (titles : List (List ℕ)) (rows : List Row) : Type 0 where
  pub weights : AreWeights w
  pub texts : All IsUtf8 titles
  pub short : All (λ t. length t ≤ MAX_LINE_BYTES) titles
  pub few_bytes : length (title_bytes titles) < 2 ^ 32
  pub words : All (λ r. is_word r.word ≡ true) rows
  pub scored : All (λ r. is_scored w (is_facet r.word) (post_of [] r) ≡ true) rows

-- want of memory names none
abbrev pub build_refusal_of : BuildFault → Option CollectionRefusal
build_refusal_of TooManyWords = Some too_many_words
build_refusal_of Memory = None
