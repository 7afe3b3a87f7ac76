use Rattle.std.proofs.Common.{List, drop, map}
use Rattle.cs_cols.specs.declared.cols.Cols.{Cols}
use Rattle.cs_build.specs.Joining.{moved_post}
use Rattle.cs_build.specs.WordRuns.{AreTaken, CanTake}
use Rattle.cs_build.proofs.joining.fill_block.Given as goal

abbrev pub invariant-loop-i : goal.invariant-loop-i
invariant-loop-i l = record {
  can : CanTake l.places l.blocks (map (moved_post l.shift l.docs) (drop l.i l.block.posts));
  goes : (end : List Cols) → AreTaken l.places (map (moved_post l.shift l.docs) (drop l.i l.block.posts)) l.blocks end → AreTaken l.places (map (moved_post l.shift l.docs) l.block.posts) l.initial.blocks end;
}
