use Rattle.std.proofs.Common.{List, drop}
use Rattle.cs_cols.specs.declared.cols.Cols.{Cols}
use Rattle.cs_build.specs.RowColumns.{posts_by}
use Rattle.cs_build.specs.WordRuns.{AreTaken, CanTake}
use Rattle.cs_build.proofs.filling.fill_rows.Given as goal

abbrev pub invariant-loop-i : goal.invariant-loop-i
invariant-loop-i l = record {
  can : CanTake l.places l.blocks (posts_by (drop l.i l.rows) (drop l.i l.numbers));
  goes : (end : List Cols) → AreTaken l.places (posts_by (drop l.i l.rows) (drop l.i l.numbers)) l.blocks end → AreTaken l.places (posts_by l.rows l.numbers) l.initial.blocks end;
}
