use Rattle.std.proofs.Common.{◌≡◌, ◌≤◌, take, length}
use Rattle.std.specs.Prelude.{filter}
use Rattle.cs_join.specs.Marked.{has_mark}
use Rattle.cs_join.proofs.rows.count_marked.Given as goal

abbrev pub invariant-loop-i : goal.invariant-loop-i
invariant-loop-i l = record {
  counted : l.count ≡ length (filter (has_mark l.marks.least l.marks.marks.items) (take l.i l.rows.posts));
  few : l.count ≤ l.i;
}
