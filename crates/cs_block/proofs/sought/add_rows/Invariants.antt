use Rattle.std.proofs.Common.{◌≡◌, ◌+◌, ◌≤◌, ◌++◌, true, length, map, take}
use Rattle.std.specs.List.{All}
use Rattle.std.specs.Vec.{vec_len, vec_capacity}
use Rattle.cs_block.specs.ColumnsView.{seen_columns}
use Rattle.cs_block.specs.Sought.{IsOfBlock, row_with}
use Rattle.cs_block.proofs.sought.add_rows.Given as goal

abbrev pub invariant-loop-place : goal.invariant-loop-place
invariant-loop-place l = record {
  added : l.into.items ≡ l.fn.into.items ++ map (row_with l.head (seen_columns l.columns) l.docs) (take l.place-index l.places);
  kept : l.kept ≡ true → All (IsOfBlock l.weights l.head) l.fn.into.items → All (IsOfBlock l.weights l.head) l.into.items;
  room : vec_len l.into + length l.places ≤ vec_capacity l.into + l.place-index;
}
