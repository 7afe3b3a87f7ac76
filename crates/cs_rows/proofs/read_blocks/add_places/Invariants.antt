use Rattle.std.proofs.Common.{ℕ, List}
use Rattle.std.specs.List.{All}
use Rattle.cs_file.specs.Indexes.{IndexView}
use Rattle.cs_file.specs.BlockBytes.{FitsBlock, HasFileBytes}
use Rattle.cs_rows.proofs.read_blocks.add_places.Given as goal

abbrev pub invariant-loop : goal.invariant-loop
invariant-loop l = record {
  fit : (i : IndexView) → All (FitsBlock i) l.fn.blocks.items → All (FitsBlock i) l.blocks.items;
  file : (b : List ℕ) → All (HasFileBytes b) l.fn.blocks.items → All (HasFileBytes b) l.blocks.items;
}
