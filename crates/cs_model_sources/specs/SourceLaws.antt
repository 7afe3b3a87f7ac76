-- Laws of translations.
--
-- Source: none; they speak of the definitions.
--
--   DocumentsAreLines    a translated document is the first line of what it stands in front of
--   ColumnsAreKept       the columns of that line are the document's, made flat
--   RecordsAreCounted    a table has a line for its header and one for each further record
--   LinesAreCounted      JSON lines have a line each, up to the bad one, which has the number that comes then
--   HasUsualWeights c    the collection c has a weights line, which breaks no rule and says the usual weights
--   WeightsAreUsual      each translation is such a collection
use Rattle.std.specs.Prelude.{◌≡◌, ℕ, ◌+◌, true, List, [], ◌∷◌, ◌++◌, length, map, Some, None}
use Rattle.std.specs.Str.Lines.{lines}
use Rattle.cs_base.specs.declared.content.scores.TheConstants.{USUAL_WEIGHTS}
use Rattle.cs_model.specs.Collection.{columns, weights, weights_lines, weights_refusal}
use Rattle.cs_model_sources.specs.CsvSources.{csv_flat, flat_of_csv, is_header}
use Rattle.cs_model_sources.specs.JsonSources.{flat_of_jsonl, lines_flat}
use Rattle.cs_model_sources.specs.Translated.{columns_of, flat, translated}
use Rattle.cs_model_sources.specs.declared.flat.BadLine.{BadLine}

-- so a document never becomes two lines, nor does it run into the next one; behind it there may be nothing
abbrev pub DocumentsAreLines : Type 0
DocumentsAreLines = (title facets text rest : List ℕ) → lines (translated title facets text ++ rest) ≡ columns_of title facets text ∷ lines rest

-- so none of its columns runs into the next one; each may be empty
abbrev pub ColumnsAreKept : Type 0
ColumnsAreKept = (title facets text : List ℕ) → columns (columns_of title facets text) ≡ record { title = flat title; facets = flat facets; text = flat text }

-- so a record's number is that of its line, the weights line having that of the header; there may be no further record
abbrev pub RecordsAreCounted : Type 0
RecordsAreCounted = (names : List (List ℕ)) (records : List (List (List ℕ))) → is_header names ≡ true → length (lines (csv_flat (names ∷ records)).tsv) ≡ length (names ∷ records)

-- so a line's number, from n, is that of its line behind the weights line, and the bad line's is the one that comes behind them; where no line is bad
-- there are as many as in the source
pub record LinesAreCounted : Type 0 where
  pub all : (n : ℕ) (ls : List (List ℕ)) → (lines_flat n ls).bad ≡ None → length (lines (lines_flat n ls).tsv) ≡ length ls
  pub before : (n : ℕ) (ls : List (List ℕ)) (b : BadLine) → (lines_flat n ls).bad ≡ Some b → n + length (lines (lines_flat n ls).tsv) ≡ b.line

-- its weights are those of a collection that names none, and its one weights line isn't refused; the empty collection has no such line
pub record HasUsualWeights (c : List ℕ) : Type 0 where
  pub said : weights c ≡ USUAL_WEIGHTS
  pub kept : map weights_refusal (weights_lines c) ≡ None ∷ []

-- so no source is refused for its weights, and no document becomes a weights line; the source may be empty
pub record WeightsAreUsual : Type 0 where
  pub tables : (b : List ℕ) → HasUsualWeights (flat_of_csv b).tsv
  pub lines : (b : List ℕ) → HasUsualWeights (flat_of_jsonl b).tsv
