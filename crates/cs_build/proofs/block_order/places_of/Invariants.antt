use Rattle.std.proofs.Common.{◌≡◌, map, take}
use Rattle.cs_build.specs.Joining.{place_post}
use Rattle.cs_build.proofs.block_order.places_of.Given as goal

abbrev pub invariant-loop-i : goal.invariant-loop-i
invariant-loop-i l = map place_post l.places.items ≡ take l.i l.block.posts
