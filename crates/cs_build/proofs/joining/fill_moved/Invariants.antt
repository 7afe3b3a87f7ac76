use Rattle.std.proofs.Common.{◌+◌, ◌<◌, ◌^◌, List, drop, length, map}
use Rattle.std.specs.List.{All}
use Rattle.cs_cols.specs.declared.cols.Cols.{Cols}
use Rattle.cs_build.specs.Joining.{held_posts, moved_post}
use Rattle.cs_build.specs.WordRuns.{AreTaken, CanTake}
use Rattle.cs_build.proofs.joining.fill_moved.Given as goal

abbrev pub invariant-loop-block : goal.invariant-loop-block
invariant-loop-block l = record {
  can : CanTake l.places l.blocks (map (moved_post l.shift l.docs) (held_posts (drop l.block-index l.from)));
  goes : (end : List Cols) → AreTaken l.places (map (moved_post l.shift l.docs) (held_posts (drop l.block-index l.from))) l.blocks end → AreTaken l.places (map (moved_post l.shift l.docs) (held_posts l.from)) l.initial.blocks end;
  words : All (λ p. p.word < length l.shift) (held_posts (drop l.block-index l.from));
  docs : All (λ p. p.doc + l.docs < 2 ^ 32) (held_posts (drop l.block-index l.from));
}
