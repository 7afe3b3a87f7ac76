-- A reader of records as the list of those that it has left.
--
--   bytes_left reader        the bytes that a reader of a slice reads from next; None where they aren't known
--   records_behind s bytes   the records that these bytes are, read from a state; of unknown bytes none
--   records_left reader      the records that a reader of a slice has left
--   record_line c r          the line of the document of a record, at columns
--   StandsBetween reader     it reads records as the definition does, of any number of fields, and stands between two, before bytes that are known
use Rattle.std.specs.Prelude.{◌≡◌, ℕ, ◌+◌, false, true, List, [], length, Option, Some, None, is_some}
use Rattle.std.specs.Borrow.{Bor}
use Rattle.csv.specs.Machine.{ends_at_end}
use Rattle.csv.specs.Reading.{Ready, default_config, records_from, source_of}
use Rattle.csv.specs.declared.parser.State.{State}
use Rattle.csv.specs.declared.reader.Reader.{Reader}
use Rattle.csv.specs.declared.reader.Trim.TheVariants as trim
use Rattle.cs_model_sources.specs.CsvSources.{field_in}
use Rattle.cs_model_sources.specs.Translated.{translated}
use Rattle.cs_more.specs.declared.header.HeaderColumns.{HeaderColumns}

-- the bytes from the reader's place to the end of its slice, none at the end; None where they aren't known
abbrev pub bytes_left : Reader (Bor (List ℕ)) → Option (List ℕ)
bytes_left reader = source_of (λ s. Some s.now) reader

-- the records of bytes, read from a state; of no bytes and of unknown ones none
abbrev pub records_behind : State → Option (List ℕ) → List (List (List ℕ))
records_behind s None = []
records_behind s (Some bytes) = records_from default_config (length bytes + 1) s bytes

-- the records from the reader's place on; at the end none
abbrev pub records_left : Reader (Bor (List ℕ)) → List (List (List ℕ))
records_left reader = records_behind reader.state (bytes_left reader)

-- the line of a record's document; a column that is None is empty
unfoldable pub record_line : HeaderColumns → List (List ℕ) → List ℕ
record_line c r = translated (field_in r c.title) (field_in r c.facets) (field_in r c.text)

-- nothing is trimmed, no number of fields is wrong, the signs are the usual ones, no record has been begun, and the bytes left are known
pub record StandsBetween (reader : Reader (Bor (List ℕ))) : Type 0 where
  pub trim : reader.trim ≡ trim.None
  pub flexible : reader.flexible ≡ true
  pub ready : Ready reader
  pub config : reader.config ≡ default_config
  pub between : ends_at_end reader.state ≡ false
  pub known : is_some (bytes_left reader) ≡ true
