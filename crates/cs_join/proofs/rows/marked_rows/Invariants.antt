use Rattle.std.proofs.Common.{◌≡◌, ◌+◌, ◌≤◌, ◌++◌, drop, length}
use Rattle.std.specs.Prelude.{filter}
use Rattle.cs_join.specs.Marked.{has_mark}
use Rattle.cs_join.proofs.rows.marked_rows.Given as goal

abbrev pub invariant-loop-i : goal.invariant-loop-i
invariant-loop-i l = let marked = has_mark l.marks.least l.marks.marks.items in record {
  told : filter marked l.rows.posts ≡ l.found.posts ++ filter marked (drop l.i l.rows.posts);
  room : length (filter marked l.rows.posts) ≤ l.found.room + length l.found.posts;
}
