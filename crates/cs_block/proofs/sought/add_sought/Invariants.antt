use Rattle.std.proofs.Common.{◌≡◌, ◌-◌, ◌≤◌, ◌++◌, true, length, map}
use Rattle.std.specs.Prelude.{filter}
use Rattle.std.specs.List.{All, range_with_len}
use Rattle.cs_block.specs.ColumnsView.{seen_columns}
use Rattle.cs_block.specs.Sought.{IsOfBlock, passes, row_with}
use Rattle.cs_block.proofs.sought.add_sought.Given as goal

abbrev pub invariant-loop-from : goal.invariant-loop-from
invariant-loop-from l = record {
  added : l.into.items ≡ l.fn.into.items ++ filter (passes l.wanted.whole l.wanted.words.0 l.wanted.words.1 l.wanted.listed.now)
      (map (row_with l.head (seen_columns l.columns) l.docs) (range_with_len 0 l.from));
  kept : l.kept ≡ true → All (IsOfBlock l.weights l.head) l.fn.into.items → All (IsOfBlock l.weights l.head) l.into.items;
  within : l.from ≤ length l.docs;
}

abbrev pub decreases-loop-from : goal.decreases-loop-from
decreases-loop-from l = length l.docs - l.from
