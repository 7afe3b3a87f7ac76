use Rattle.std.proofs.Common.{◌≡◌, ◌+◌, ◌-◌, ◌^◌, ◌≤◌, drop, length, min}
use Rattle.cs_build.specs.Joining.{held_posts}
use Rattle.cs_build.proofs.joining.posts_in.Given as goal

abbrev pub invariant-loop-block : goal.invariant-loop-block
invariant-loop-block l = record {
  sum : min (l.posts + length (held_posts (drop l.block-index l.blocks))) (2 ^ 64 - 1) ≡ min (length (held_posts l.blocks)) (2 ^ 64 - 1);
  fits : l.posts ≤ 2 ^ 64 - 1;
}
