use Rattle.std.proofs.Common.{◌≡◌, ◌+◌, ◌≤◌, ◌++◌, length, map, drop}
use Rattle.cs_rows.specs.Packing.{apart, post_of_key}
use Rattle.cs_rows.specs.declared.packing.TheConstants.{NO_PLACE}
use Rattle.cs_rows.proofs.packing.unpack.Given as goal

abbrev pub invariant-loop-key : goal.invariant-loop-key
invariant-loop-key l = record {
  rows : l.rows.posts ++ map (post_of_key l.weights) (apart l.last (drop l.key-index l.keys)) ≡ map (post_of_key l.weights) (apart NO_PLACE l.keys);
  room : length l.keys ≤ l.rows.room + l.key-index;
}
