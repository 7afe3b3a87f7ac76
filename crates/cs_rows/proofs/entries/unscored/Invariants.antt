use Rattle.std.proofs.Common.{◌≡◌, ◌+◌, ◌≤◌, ◌++◌, drop, length, map}
use Rattle.std.specs.Vec.{vec_capacity, vec_len}
use Rattle.cs_rows.specs.Steps.{with_no_score}
use Rattle.cs_rows.proofs.entries.unscored.Given as goal

abbrev pub invariant-loop-doc : goal.invariant-loop-doc
invariant-loop-doc l = record {
  told : map with_no_score l.numbers ≡ l.listed.items ++ map with_no_score (drop l.doc-index l.numbers);
  room : vec_len l.listed + length l.numbers ≤ vec_capacity l.listed + l.doc-index;
}
