-- Why a source isn't accepted, and what is said of it.
--
-- Source: this engine's own.
--
--   ImportRefusal            of_lines, the refusal of the translated collection; or of_line, a bad line of the source
--   flat_refusal f           the first refusal of a translation: that of its documents, else its bad line, else that of its rows
--   source_refusal form b    too large, else that of the translation; None where the source is accepted
--   earlier r                the refusal r, with the number of the line before
--   why_words w              why a line is bad, in words
--   csv_words r              a refusal of a table in words, by the numbers of its records
--   jsonl_words r            a refusal of JSON lines in words, by the numbers of its lines
use Rattle.std.specs.Prelude.{ℕ, ◌-◌, ◌&&◌, nat_le, if◌then◌else◌, List, [], ◌∷◌, length, Option, Some, codes}
use Rattle.std.specs.Option.{option_map}
use Rattle.cs_base.specs.declared.content.limits.TheConstants.{MAX_COLLECTION_BYTES}
use Rattle.cs_model.specs.Collection.{CollectionRefusal, bad_facet, bad_name, bad_weights, docs_refusal, in_line, line_too_long, not_utf8, refusal_words, too_large, too_many_docs, words_too_many}
use Rattle.cs_model.specs.Corpus.{refusal}
use Rattle.cs_model.specs.First.{first_reason}
use Rattle.cs_model_sources.specs.declared.flat.BadLine.{BadLine}
use Rattle.cs_model_sources.specs.declared.flat.Flat.{Flat}
use Rattle.cs_model_sources.specs.declared.flat.Why.{Why}
use Rattle.cs_model_sources.specs.declared.flat.Why.TheVariants as whys

-- why a source isn't accepted: what its translation is refused for, or a line that isn't translated
pub data ImportRefusal : Type 0 where
  of_lines : CollectionRefusal → ImportRefusal
  of_line : BadLine → ImportRefusal

-- the first refusal of a translation: that of its documents by their lines; else the bad line, which comes behind all of them; else that of the
-- whole collection, which is then by its rows or their words; None where the source is accepted
abbrev pub flat_refusal : Flat → Option ImportRefusal
flat_refusal f = first_reason (option_map of_lines (docs_refusal f.tsv) ∷ option_map of_line f.bad ∷ option_map of_lines (refusal f.tsv) ∷ [])

-- the first refusal of a source that is translated so: too large where the source or its translation is, and nothing else then
abbrev pub source_refusal : (List ℕ → Flat) → List ℕ → Option ImportRefusal
source_refusal form b = if nat_le (length b) MAX_COLLECTION_BYTES && nat_le (length (form b).tsv) MAX_COLLECTION_BYTES then flat_refusal (form b) else Some (of_lines too_large)

-- the refusal by the number of the line before; one that names no line as it is
abbrev pub earlier : CollectionRefusal → CollectionRefusal
earlier (not_utf8 n) = not_utf8 (n - 1)
earlier (line_too_long n) = line_too_long (n - 1)
earlier (bad_weights n) = bad_weights (n - 1)
earlier (words_too_many n) = words_too_many (n - 1)
earlier (bad_facet n) = bad_facet (n - 1)
earlier (bad_name n) = bad_name (n - 1)
earlier (too_many_docs n) = too_many_docs (n - 1)
earlier r = r

-- why a line is bad, without an ending
abbrev pub why_words : Why → List ℕ
why_words whys.Header = codes "bad header"
why_words whys.Json = codes "not JSON"
why_words whys.Field = codes "bad field"

-- why a table isn't accepted: its header stands where the collection has the weights line, so a record has the number of its line there
abbrev pub csv_words : ImportRefusal → List ℕ
csv_words (of_lines r) = refusal_words r
csv_words (of_line b) = in_line b.line (why_words b.why)

-- why JSON lines aren't accepted: the collection has the weights line in front, so a line has the number of the line before it there
abbrev pub jsonl_words : ImportRefusal → List ℕ
jsonl_words (of_lines r) = refusal_words (earlier r)
jsonl_words (of_line b) = in_line b.line (why_words b.why)
