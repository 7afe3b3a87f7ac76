use Rattle.std.proofs.Common.{◌≡◌, ◌≤◌, ◌++◌, length}
use Rattle.std.specs.List.{flat_map}
use Rattle.cs_base.specs.declared.content.limits.TheConstants.{MAX_COLLECTION_BYTES}
use Rattle.cs_more.specs.RecordsLeft.{StandsBetween, record_line, records_left}
use Rattle.cs_more.proofs.csv_source.push_records.Given as goal

abbrev pub invariant-loop-tsv : goal.invariant-loop-tsv
invariant-loop-tsv l = record {
  whole : l.fn.tsv.items ++ flat_map (record_line l.columns) (records_left l.fn.reader) ≡ l.tsv.items ++ flat_map (record_line l.columns) (records_left l.reader);
  stands : StandsBetween l.reader;
  few : length l.tsv.items ≤ MAX_COLLECTION_BYTES;
}

abbrev pub decreases-loop-tsv : goal.decreases-loop-tsv
decreases-loop-tsv l = length (records_left l.reader)
