-- Lines of JSON as a collection.
--
-- Source: RFC 8259; which value a text is says the cited crate: at most 127 levels, numbers that a float holds, and of equal keys the last one counts. Which fields a document has is this engine's own.
--
--   json_value l          the value of a line; None where it isn't UTF-8 or isn't one value
--   text_field v          the text of a field: itself, or nothing where it is absent or null; None for another form
--   strings_of ds         the strings of a list; None where one of it is another value
--   facets_field v        as text_field, and of a list of strings these with `;` between each two
--   LineRead              what a line gives: bytes of the collection, or why it is bad
--   columns_line t f x    the line of a document with these columns; bad where one of them is
--   value_line d          what a value gives
--   read_value v          what a line gives whose value this is
--   line_read l           what a line gives; LF where it has no bytes
--   in_front t f          the translation f with the bytes t in front
--   with_line n r f       what line n gives, and f behind it; where it is bad nothing, and f doesn't count
--   lines_flat n ls       the translation of lines that are numbered from n, without the weights line
--   flat_of_jsonl b       the translation of a source
use Rattle.std.specs.Prelude.{ℕ, ◌+◌, if◌then◌else◌, List, [], ◌∷◌, ◌++◌, Option, Some, None, codes}
use Rattle.std.specs.Option.{option_map, option_and_then}
use Rattle.std.specs.List.{join_with_byte}
use Rattle.std.specs.Str.{is_utf8}
use Rattle.std.specs.Str.Lines.{lines}
use Rattle.serde_json.specs.Data.{Data, null, boolean, number, string, array, object, Items, no_items, item}
use Rattle.serde_json.specs.Find.{as_str, get}
use Rattle.serde_json.specs.Read.{read}
use Rattle.cs_base.specs.content.Bytes.{line_feed, semicolon}
use Rattle.cs_model.specs.Collection.{without_mark}
use Rattle.cs_model_sources.specs.Translated.{translated, usual_weights_line}
use Rattle.cs_model_sources.specs.declared.flat.Flat.{Flat}
use Rattle.cs_model_sources.specs.declared.flat.Why.{Why}
use Rattle.cs_model_sources.specs.declared.flat.Why.TheVariants.{Json, Field}

-- the value of a line; None where it isn't UTF-8, has no value or more than one, or a value that isn't read
unfoldable pub json_value : List ℕ → Option Data
json_value l = if is_utf8 l then read l else None

-- the text of a field, which is nothing where the field is absent or null; None where it is another value than a string
abbrev pub text_field : Option Data → Option (List ℕ)
text_field None = Some []
text_field (Some null) = Some []
text_field (Some (boolean b)) = None
text_field (Some (number n)) = None
text_field (Some (string s)) = Some s
text_field (Some (array ds)) = None
text_field (Some (object ms)) = None

-- the strings of a list, in order, of the empty list none; None where one of its values is no string
abbrev pub strings_of : Items → Option (List (List ℕ))
strings_of no_items = Some []
strings_of (item d ds) = option_and_then (λ s. option_map (λ ss. s ∷ ss) (strings_of ds)) (as_str d)

-- the facets column, which a list of strings gives with `;` between each two; the empty list gives nothing
abbrev pub facets_field : Option Data → Option (List ℕ)
facets_field None = Some []
facets_field (Some null) = Some []
facets_field (Some (boolean b)) = None
facets_field (Some (number n)) = None
facets_field (Some (string s)) = Some s
facets_field (Some (array ds)) = option_map (join_with_byte semicolon) (strings_of ds)
facets_field (Some (object ms)) = None

-- what a line gives: bytes of the collection with their LF, or why the line is bad
pub data LineRead : Type 0 where
  given : List ℕ → LineRead
  bad : Why → LineRead

-- the line of three columns; a bad field where one of them has another form
abbrev pub columns_line : Option (List ℕ) → Option (List ℕ) → Option (List ℕ) → LineRead
columns_line (Some title) (Some facets) (Some text) = given (translated title facets text)
columns_line None facets text = bad Field
columns_line (Some title) None text = bad Field
columns_line (Some title) (Some facets) None = bad Field

-- what a value gives: an object its three fields, others being ignored; a value that is no object has another form
abbrev pub value_line : Data → LineRead
value_line null = bad Field
value_line (boolean b) = bad Field
value_line (number n) = bad Field
value_line (string s) = bad Field
value_line (array ds) = bad Field
value_line (object ms) = columns_line (text_field (get (codes "title") (object ms))) (facets_field (get (codes "facets") (object ms))) (text_field (get (codes "text") (object ms)))

-- what a line gives that has this value; without a value it is no JSON
abbrev pub read_value : Option Data → LineRead
read_value None = bad Json
read_value (Some d) = value_line d

-- what a line gives; one without bytes gives a line without bytes, which is no document
unfoldable pub line_read : List ℕ → LineRead
line_read [] = given (line_feed ∷ [])
line_read (b ∷ l) = read_value (json_value (b ∷ l))

-- a translation with bytes in front
abbrev pub in_front : List ℕ → Flat → Flat
in_front t f = record { tsv = t ++ f.tsv; bad = f.bad }

-- what line n gives, in front of what the lines behind it give; where it is bad, nothing more counts
abbrev pub with_line : ℕ → LineRead → Flat → Flat
with_line n (given t) f = in_front t f
with_line n (bad w) f = record { tsv = []; bad = Some (record { line = n; why = w }) }

-- the translation of lines that are numbered from n, up to the first bad one; of no lines nothing
abbrev pub lines_flat : ℕ → List (List ℕ) → Flat
lines_flat n [] = record { tsv = []; bad = None }
lines_flat n (l ∷ ls) = with_line n (line_read l) (lines_flat (n + 1) ls)

-- the translation of a source, whose lines are those of a collection and whose leading bytes EF BB BF are skipped once
abbrev pub flat_of_jsonl : List ℕ → Flat
flat_of_jsonl b = in_front usual_weights_line (lines_flat 1 (lines (without_mark b)))
