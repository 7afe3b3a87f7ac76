use Rattle.std.proofs.Common.{List, drop}
use Rattle.cs_cols.specs.declared.cols.Cols.{Cols}
use Rattle.cs_build.specs.RowColumns.{facet_posts}
use Rattle.cs_build.specs.WordRuns.{AreTaken, CanTake}
use Rattle.cs_build.proofs.filling.fill_facets.Given as goal

abbrev pub invariant-loop-number : goal.invariant-loop-number
invariant-loop-number l = record {
  can : CanTake l.places l.blocks (facet_posts l.doc l.score (drop l.number-index l.numbers));
  goes : (end : List Cols) → AreTaken l.places (facet_posts l.doc l.score (drop l.number-index l.numbers)) l.blocks end → AreTaken l.places (facet_posts l.doc l.score l.numbers) l.initial.blocks end;
}
