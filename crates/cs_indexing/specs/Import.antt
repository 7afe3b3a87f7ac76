-- What index files are made of: collections, and sources of other forms, which are translated into one.
--
--   collection_in form b     the collection that a source is or is translated into
--   Refusal                  why a source isn't accepted, for each form
--   form_of r                the form of the source that r refuses
--   refused_words r          the refusal r in words
--   IsAcceptedAs form b      a source is accepted
--   IsRefusedAs form b r     a source is refused for r
use Rattle.std.specs.Prelude.{◌≡◌, ℕ, List, Some, None}
use Rattle.cs_model.specs.Collection.{CollectionRefusal, refusal_words}
use Rattle.cs_model.specs.Corpus.{refusal}
use Rattle.cs_model_sources.specs.CsvSources.{flat_of_csv}
use Rattle.cs_model_sources.specs.JsonSources.{flat_of_jsonl}
use Rattle.cs_model_sources.specs.SourceRefusals.{ImportRefusal, csv_words, jsonl_words, source_refusal}
use Rattle.cs_indexing.specs.declared.words.Form.{Form}
use Rattle.cs_indexing.specs.declared.words.Form.TheVariants as forms

-- a collection is itself; a table and lines of JSON are translated, up to the first bad line
abbrev pub collection_in : Form → List ℕ → List ℕ
collection_in forms.Collection b = b
collection_in forms.Csv b = (flat_of_csv b).tsv
collection_in forms.JsonLines b = (flat_of_jsonl b).tsv

-- a collection is refused by its rules; another source by those of its translation, or for a line that isn't translated
pub data Refusal : Type 0 where
  of_collection : CollectionRefusal → Refusal
  of_csv : ImportRefusal → Refusal
  of_jsonl : ImportRefusal → Refusal

-- each refusal is that of one form
abbrev pub form_of : Refusal → Form
form_of (of_collection r) = forms.Collection
form_of (of_csv r) = forms.Csv
form_of (of_jsonl r) = forms.JsonLines

-- by the number of a line of a collection, of a record of a table, or of a line of JSON, without an ending
abbrev pub refused_words : Refusal → List ℕ
refused_words (of_collection r) = refusal_words r
refused_words (of_csv r) = csv_words r
refused_words (of_jsonl r) = jsonl_words r

-- no rule refuses it, and no line of it is bad
abbrev pub IsAcceptedAs : Form → List ℕ → Type 0
IsAcceptedAs forms.Collection b = refusal b ≡ None
IsAcceptedAs forms.Csv b = source_refusal flat_of_csv b ≡ None
IsAcceptedAs forms.JsonLines b = source_refusal flat_of_jsonl b ≡ None

-- r is the first refusal; a source has none of another form
abbrev pub IsRefusedAs : Form → List ℕ → Refusal → Type 0
IsRefusedAs forms.Collection b (of_collection r) = refusal b ≡ Some r
IsRefusedAs forms.Csv b (of_csv r) = source_refusal flat_of_csv b ≡ Some r
IsRefusedAs forms.JsonLines b (of_jsonl r) = source_refusal flat_of_jsonl b ≡ Some r
IsRefusedAs form b r = ⊥
