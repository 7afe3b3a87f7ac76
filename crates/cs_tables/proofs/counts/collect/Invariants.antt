use Rattle.std.proofs.Common.{◌≡◌, ◌≤◌, ◌+◌, ◌++◌, length, drop}
use Rattle.cs_tables.specs.Marks.{collected}
use Rattle.cs_tables.proofs.counts.collect.Given as goal

abbrev pub invariant-loop-i : goal.invariant-loop-i
invariant-loop-i l = record {
  whole : collected l.low l.marks ≡ l.counted.items ++ collected (l.low + l.i) (drop l.i l.marks);
  few : length l.counted.items ≤ l.i;
}
