use Rattle.std.proofs.Common.{◌≡◌, ◌+◌, ◌≤◌, length, map, take}
use Rattle.cs_build.specs.Joining.{place_post}
use Rattle.cs_build.proofs.block_order.posts_at.Given as goal

abbrev pub invariant-loop-place : goal.invariant-loop-place
invariant-loop-place l = record {
  posts : l.block.posts ≡ map place_post (take l.place-index l.places);
  room : length l.places ≤ l.block.room + l.place-index;
}
