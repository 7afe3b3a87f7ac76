use Rattle.std.proofs.Common.{◌≡◌, ◌+◌, ◌≤◌, ◌++◌, length, map, take}
use Rattle.std.specs.Vec.{vec_len, vec_capacity}
use Rattle.cs_rows.specs.Packing.{key_of}
use Rattle.cs_rows.proofs.packing.pack.Given as goal

abbrev pub invariant-loop-post : goal.invariant-loop-post
invariant-loop-post l = record {
  keys : l.keys.items ≡ l.fn.keys.items ++ map (key_of l.weights) (take l.post-index l.posts);
  room : vec_len l.keys + length l.posts ≤ vec_capacity l.keys + l.post-index;
}
