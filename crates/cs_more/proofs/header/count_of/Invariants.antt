use Rattle.std.proofs.Common.{◌≡◌, ◌≤◌, ◌+◌, drop}
use Rattle.std.specs.List.{count_by}
use Rattle.csv.specs.Records.{fields_of}
use Rattle.cs_model_sources.specs.CsvSources.{is_field_named}
use Rattle.cs_more.proofs.header.count_of.Given as goal

abbrev pub invariant-loop-i : goal.invariant-loop-i
invariant-loop-i l = record {
  whole : count_by (is_field_named l.name) (fields_of l.header) ≡ l.count + count_by (is_field_named l.name) (drop l.i (fields_of l.header));
  few : l.count ≤ l.i;
}
