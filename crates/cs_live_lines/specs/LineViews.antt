-- Types of the code as what they stand for.
--
--   line_seen l          what a line does
--   broken r             the refusal of a second line that breaks the rule r
--   IsLineRefusal o f      the fault f names the refusal o; want of memory names none, and may come with any
--   IsOnlyDocument w d   a collection of these weights, which isn't refused, has the document d and no other
--   full_seen f          what there is no more room for
use Rattle.std.specs.Prelude.{◌≡◌, ℕ, List, [], ◌∷◌, Option, Some, None}
use Rattle.cs_base.specs.declared.content.doc.Doc.{Doc}
use Rattle.cs_base.specs.declared.content.scores.Weights.{Weights}
use Rattle.cs_model.specs.Collection.{CollectionRefusal, not_utf8, line_too_long, words_too_many, bad_facet, bad_name, docs_refusal, documents, weights}
use Rattle.cs_model_live.specs.LiveLines.{LiveLine, adds, asks, deletes}
use Rattle.cs_model_live.specs.LiveStates.{Full, full_docs, full_rows, full_words}
use Rattle.cs_live_lines.specs.declared.document.DocumentFault.{DocumentFault}
use Rattle.cs_live_lines.specs.declared.document.DocumentFault.TheVariants.{Broken, Memory}
use Rattle.cs_live_lines.specs.declared.document.LineRule.{LineRule}
use Rattle.cs_live_lines.specs.declared.document.LineRule.TheVariants.{NotUtf8, LineTooLong, WordsTooMany, BadFacet, BadName}
use Rattle.cs_live_lines.specs.declared.line.LiveLine.{LiveLine as Line}
use Rattle.cs_live_lines.specs.declared.line.LiveLine.TheVariants as lines
use Rattle.cs_live_lines.specs.declared.texts.Full.{Full as Lacking}
use Rattle.cs_live_lines.specs.declared.texts.Full.TheVariants.{Docs, Rows, Words}

-- the bytes behind its first four, or all of them; they may be none
abbrev pub line_seen : Line → LiveLine
line_seen (lines.Adds l) = adds l.now
line_seen (lines.Deletes l) = deletes l.now
line_seen (lines.Asks l) = asks l.now

-- rule by rule, said of line 2
abbrev pub broken : LineRule → CollectionRefusal
broken NotUtf8 = not_utf8 2
broken LineTooLong = line_too_long 2
broken WordsTooMany = words_too_many 2
broken BadFacet = bad_facet 2
broken BadName = bad_name 2

-- where it is no want of memory, there is a refusal, and it is this one
abbrev pub IsLineRefusal : Option CollectionRefusal → DocumentFault → Type 0
IsLineRefusal o (Broken r) = o ≡ Some (broken r)
IsLineRefusal o Memory = Unit {0}

-- no rule refuses it
pub record IsOnlyDocument (w : Weights) (d : Doc) : Type 0 where
  pub collection : List ℕ
  pub accepted : docs_refusal collection ≡ None
  pub weights : weights collection ≡ w
  pub documents : documents collection ≡ d ∷ []

-- variant by variant
abbrev pub full_seen : Lacking → Full
full_seen Docs = full_docs
full_seen Rows = full_rows
full_seen Words = full_words
