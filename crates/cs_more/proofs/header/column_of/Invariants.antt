use Rattle.std.proofs.Common.{◌≡◌, ◌<◌, ℕ, false, get_or, []}
use Rattle.csv.specs.Records.{fields_of}
use Rattle.cs_model_sources.specs.CsvSources.{is_field_named}
use Rattle.cs_more.proofs.header.column_of.Given as goal

abbrev pub invariant-loop-i : goal.invariant-loop-i
invariant-loop-i l = (k : ℕ) → k < l.i → is_field_named l.name (get_or (fields_of l.header) k []) ≡ false
