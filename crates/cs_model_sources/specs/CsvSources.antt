-- A table of comma-separated values as a collection.
--
-- Source: the records are those of the cited crate, with a comma between fields, double quotes around them, and LF, CR or both
-- behind a record; fields aren't trimmed, and records needn't have as many fields as the header. What a column is called, and
-- what becomes of a record, is this engine's own.
--
--   is_field_named name field    whether a header's field is this name, without regard to ASCII case
--   column name names            the place of the first field with this name; None where there is none
--   is_header names              `title` stands exactly once, `facets` and `text` at most once
--   field_in r column            the field of a record at a column; nothing where record or header has none
--   document_line names r        the line of the document of a record under a header
--   csv_flat records             the translation of records: the collection, and the first bad line
--   flat_of_csv b                the translation of a source
use Rattle.std.specs.Prelude.{ℕ, Bool, ◌==◌, ◌&&◌, nat_le, if◌then◌else◌, List, [], ◌∷◌, ◌++◌, Option, Some, None, codes, get_or}
use Rattle.std.specs.List.{count_by, position, flat_map}
use Rattle.std.specs.Str.{str_eq_ignore_ascii_case}
use Rattle.csv.specs.Reading.{default_config, records, strip_bom}
use Rattle.cs_model_sources.specs.Translated.{translated, usual_weights_line}
use Rattle.cs_model_sources.specs.declared.flat.Flat.{Flat}
use Rattle.cs_model_sources.specs.declared.flat.Why.TheVariants.{Header}

-- the field is this name, as `Title` is `title`; other letters than those of ASCII aren't folded, and spaces count
abbrev pub is_field_named : List ℕ → List ℕ → Bool
is_field_named name field = str_eq_ignore_ascii_case field name

-- the place of a column, from 0; None where no field has the name
abbrev pub column : List ℕ → List (List ℕ) → Option ℕ
column name names = position (is_field_named name) names

-- a header that names each column at most once and the title once; other columns may stand in it, also more than once
abbrev pub is_header : List (List ℕ) → Bool
is_header names = (count_by (is_field_named (codes "title")) names == 1)
    && (nat_le (count_by (is_field_named (codes "facets")) names) 1 && nat_le (count_by (is_field_named (codes "text")) names) 1)

-- the field of a record at a column; nothing where the header has no such column, or the record no such field
abbrev pub field_in : List (List ℕ) → Option ℕ → List ℕ
field_in r None = []
field_in r (Some i) = get_or r i []

-- the line of a record's document, of the three columns alone; a record is one also where all three are empty
unfoldable pub document_line : List (List ℕ) → List (List ℕ) → List ℕ
document_line names r = translated (field_in r (column (codes "title") names)) (field_in r (column (codes "facets") names)) (field_in r (column (codes "text") names))

-- the first record is the header, and each further one a document; the weights line alone where there is no record, or where
-- the header is bad, which is the one line of a table that may be
unfoldable pub csv_flat : List (List (List ℕ)) → Flat
csv_flat [] = record { tsv = usual_weights_line; bad = None }
csv_flat (names ∷ rows) = if is_header names
    then record { tsv = usual_weights_line ++ flat_map (document_line names) rows; bad = None }
    else record { tsv = usual_weights_line; bad = Some (record { line = 1; why = Header }) }

-- the translation of a source, whose leading bytes EF BB BF are skipped once
abbrev pub flat_of_csv : List ℕ → Flat
flat_of_csv b = csv_flat (records default_config (strip_bom b))
