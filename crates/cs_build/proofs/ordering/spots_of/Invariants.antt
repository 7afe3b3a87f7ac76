use Rattle.std.proofs.Common.{◌≡◌, ◌++◌, map, length}
use Rattle.std.specs.Vec.Iter.{into_iter_items, into_iter_len}
use Rattle.cs_build.specs.Ordering.{row_of_spot}
use Rattle.cs_build.proofs.ordering.spots_of.Given as goal

abbrev pub invariant-loop-row : goal.invariant-loop-row
invariant-loop-row l = record {
  told : l.fn.rows ≡ map row_of_spot l.spots.items ++ into_iter_items l.row-iterator;
  left : into_iter_len l.row-iterator ≡ length (into_iter_items l.row-iterator);
}
