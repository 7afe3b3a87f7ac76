-- Worked sources: what they become, and why they are refused.
use Rattle.std.proofs.Common.{◌≡◌, true, false, [], ◌∷◌, ◌++◌, refl, codes}
use Rattle.std.specs.Prelude.{Some, None}
use Rattle.std.specs.Fmt.{digits}
use Rattle.std.specs.Str.{chars, is_utf8}
use Rattle.caseless.proofs.Computing.{caseless}
use Rattle.ucd_category.proofs.Computing.{ucd_category}
use Rattle.unicode.specs.GeneralCategory.{general_category}
use Rattle.csv.proofs.OnLiterals.{csv_on_literals}
use Rattle.csv.specs.Reading.{strip_bom}
use Rattle.serde_json.proofs.OnLiterals.{serde_json_on_literals}
use Rattle.cs_base.specs.content.Bytes.{byte_order_mark}
use Rattle.cs_model.specs.Collection.{bad_facet}
use Rattle.cs_model.specs.KeyText.{norm}
use Rattle.cs_model.specs.Weights.{weights_said}
use Rattle.cs_model.specs.Words.{is_word_char, cut, words}
use Rattle.cs_model_sources.specs.CsvSources.{csv_flat, document_line, flat_of_csv, is_header}
use Rattle.cs_model_sources.specs.JsonSources.{flat_of_jsonl, json_value, line_read}
use Rattle.cs_model_sources.specs.SourceRefusals.{csv_words, jsonl_words, of_line, of_lines, source_refusal}
use Rattle.cs_model_sources.specs.Translated.{flat, translated, usual_weights_line}
use Rattle.cs_model_sources.specs.declared.flat.Why.TheVariants.{Header, Json, Field}
use lib.Utf8

-- ---- flat texts
-- a tab, LF and CR become a space each
flat-breaks : flat (codes "a\tb\r\nc") ≡ codes "a b  c"
flat-breaks = refl

-- of no columns two tabs are left
translated-empty : translated [] [] [] ≡ codes "\t\t\n"
unfolding translated
translated-empty = refl

-- ---- tables
-- letters of ASCII are folded in a header's fields
header-case : is_header (codes "TITLE" ∷ codes "Text" ∷ []) ≡ true
header-case = refl

-- a name that stands twice is refused
header-twice : is_header (codes "title" ∷ codes "Title" ∷ []) ≡ false
header-twice = refl

-- so is a header without a title
header-none : is_header (codes "name" ∷ codes "text" ∷ []) ≡ false
header-none = refl

-- other columns may stand more than once
header-others : is_header (codes "year" ∷ codes "title" ∷ codes "year" ∷ []) ≡ true
header-others = refl

-- commas and quotes stand in quotes, and another column is ignored
csv-worked : flat_of_csv (codes "title,text,year\n\"Type, less\",\"a \"\"b\"\"\",2006\n") ≡ record { tsv = codes "#weights title=4 facet=2 text=1\nType, less\t\ta \"b\"\n"; bad = None }
unfolding csv_on_literals strip_bom csv_flat document_line translated usual_weights_line
csv-worked = refl

-- a record may have fewer fields or more, and a record without a text is a document too
csv-flexible : flat_of_csv (codes "text,title\nb,a,c\nd\n") ≡ record { tsv = codes "#weights title=4 facet=2 text=1\na\t\tb\n\t\td\n"; bad = None }
unfolding csv_on_literals strip_bom csv_flat document_line translated usual_weights_line
csv-flexible = refl

-- quotes that aren't ended go to the end of the source, a line's end among them
csv-unended : flat_of_csv (codes "title\n\"a,b\nc") ≡ record { tsv = codes "#weights title=4 facet=2 text=1\na,b c\t\t\n"; bad = None }
unfolding csv_on_literals strip_bom csv_flat document_line translated usual_weights_line
csv-unended = refl

-- a mark is skipped once
csv-mark : flat_of_csv (byte_order_mark ++ codes "title\na\n") ≡ record { tsv = codes "#weights title=4 facet=2 text=1\na\t\t\n"; bad = None }
unfolding csv_on_literals strip_bom csv_flat document_line translated usual_weights_line
csv-mark = refl

-- a second mark belongs to the first name, which is another one then
csv-marks : flat_of_csv (byte_order_mark ++ byte_order_mark ++ codes "title\na\n") ≡ record { tsv = codes "#weights title=4 facet=2 text=1\n"; bad = Some (record { line = 1; why = Header }) }
unfolding csv_on_literals strip_bom csv_flat document_line translated usual_weights_line
csv-marks = refl

-- a bad header leaves no document
csv-header : flat_of_csv (codes "name,text\na,b\n") ≡ record { tsv = codes "#weights title=4 facet=2 text=1\n"; bad = Some (record { line = 1; why = Header }) }
unfolding csv_on_literals strip_bom csv_flat document_line translated usual_weights_line
csv-header = refl

-- without a record there is no bad header either
csv-empty : flat_of_csv (codes "\n\n") ≡ record { tsv = codes "#weights title=4 facet=2 text=1\n"; bad = None }
unfolding csv_on_literals strip_bom csv_flat document_line translated usual_weights_line
csv-empty = refl

-- ---- lines of JSON
-- a list of facets is joined, and a missing field is empty
jsonl-worked : flat_of_jsonl (codes "{\"title\":\"Ab\",\"facets\":[\"k=C\",\"n=1\"],\"text\":\"b a\"}\n{\"text\":null,\"year\":2006}\n") ≡ record { tsv = codes "#weights title=4 facet=2 text=1\nAb\tk=C;n=1\tb a\n\t\t\n"; bad = None }
unfolding serde_json_on_literals json_value line_read translated usual_weights_line chars is_utf8
jsonl-worked = refl

-- of two equal keys the last one counts
jsonl-twice : flat_of_jsonl (codes "{\"title\":\"a\",\"title\":\"b\"}") ≡ record { tsv = codes "#weights title=4 facet=2 text=1\nb\t\t\n"; bad = None }
unfolding serde_json_on_literals json_value line_read translated usual_weights_line chars is_utf8
jsonl-twice = refl

-- a number is no title
jsonl-field : flat_of_jsonl (codes "{\"title\":5}") ≡ record { tsv = codes "#weights title=4 facet=2 text=1\n"; bad = Some (record { line = 1; why = Field }) }
unfolding serde_json_on_literals json_value line_read translated usual_weights_line chars is_utf8
jsonl-field = refl

-- a value that isn't ended is none; the lines before it are translated, one without bytes to one without bytes
jsonl-unended : flat_of_jsonl (codes "{\"title\":\"a\"}\r\n\n{\n{\"title\":\"b\"}") ≡ record { tsv = codes "#weights title=4 facet=2 text=1\na\t\t\n\n"; bad = Some (record { line = 3; why = Json }) }
unfolding serde_json_on_literals json_value line_read translated usual_weights_line chars is_utf8
jsonl-unended = refl

-- bytes that are no UTF-8 are no JSON
jsonl-bytes : flat_of_jsonl (34 ∷ 255 ∷ 34 ∷ []) ≡ record { tsv = codes "#weights title=4 facet=2 text=1\n"; bad = Some (record { line = 1; why = Json }) }
unfolding serde_json_on_literals json_value line_read translated usual_weights_line chars is_utf8
jsonl-bytes = refl

-- ---- refusals
-- a bad header is the source's refusal
refusal-header : source_refusal flat_of_csv (codes "name,text\n") ≡ Some (of_line (record { line = 1; why = Header }))
unfolding csv_on_literals strip_bom csv_flat document_line translated usual_weights_line is_utf8 weights_said words norm chars cut caseless is_word_char general_category ucd_category lib.Utf8.encode
refusal-header = refl

-- a refusal of documents goes before the bad line behind them, by its line of the collection
refusal-before : source_refusal flat_of_jsonl (codes "{\"facets\":\"x\"}\n{") ≡ Some (of_lines (bad_facet 2))
unfolding serde_json_on_literals json_value line_read translated usual_weights_line is_utf8 weights_said words norm chars cut caseless is_word_char general_category ucd_category lib.Utf8.encode
refusal-before = refl

-- a bad header in words
words-header : csv_words (of_line (record { line = 1; why = Header })) ≡ codes "line 1: bad header"
unfolding digits
words-header = refl

-- a bad facet of the first line of JSON, which is the second line of its collection
words-facet : jsonl_words (of_lines (bad_facet 2)) ≡ codes "line 1: bad facet"
unfolding digits
words-facet = refl

-- and of the first record behind a header
words-record : csv_words (of_lines (bad_facet 2)) ≡ codes "line 2: bad facet"
unfolding digits
words-record = refl
