use Rattle.std.proofs.Common.{◌≡◌, ◌++◌, map, length}
use Rattle.std.specs.Vec.Iter.{into_iter_items, into_iter_len}
use Rattle.cs_build.specs.Ordering.{row_of_spot}
use Rattle.cs_build.proofs.ordering.rows_at.Given as goal

abbrev pub invariant-loop-spot : goal.invariant-loop-spot
invariant-loop-spot l = record {
  told : map row_of_spot l.fn.spots.items ≡ l.rows.items ++ map row_of_spot (into_iter_items l.spot-iterator);
  left : into_iter_len l.spot-iterator ≡ length (into_iter_items l.spot-iterator);
}
