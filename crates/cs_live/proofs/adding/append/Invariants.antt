use Rattle.std.proofs.Common.{◌≡◌, ◌+◌, ◌≤◌, ◌++◌, length}
use Rattle.std.specs.Vec.{vec_len, vec_capacity}
use Rattle.std.specs.Vec.Iter.{into_iter_items, into_iter_len}
use Rattle.cs_live.proofs.adding.append.Given as goal

abbrev pub invariant-loop-row : goal.invariant-loop-row
invariant-loop-row l = record {
  told : l.rows.items ++ into_iter_items l.row-iterator ≡ l.fn.rows.items ++ l.fn.more.items;
  left : into_iter_len l.row-iterator ≡ length (into_iter_items l.row-iterator);
  room : vec_len l.rows + length (into_iter_items l.row-iterator) ≤ vec_capacity l.rows;
}
