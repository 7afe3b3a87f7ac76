use Rattle.std.proofs.Common.{List, drop}
use Rattle.cs_cols.specs.declared.cols.Cols.{Cols}
use Rattle.cs_build.specs.RowColumns.{AreDocRows, posts_of_docs}
use Rattle.cs_build.specs.WordRuns.{AreTaken, CanTake}
use Rattle.cs_build.proofs.filling.fill_docs.Given as goal

abbrev pub invariant-loop-doc : goal.invariant-loop-doc
invariant-loop-doc l = record {
  each : AreDocRows (drop l.doc l.docs) l.rest;
  can : CanTake l.places l.blocks (posts_of_docs l.weights l.doc (drop l.doc l.docs) l.rest);
  goes : (end : List Cols) → AreTaken l.places (posts_of_docs l.weights l.doc (drop l.doc l.docs) l.rest) l.blocks end → AreTaken l.places (posts_of_docs l.weights 0 l.docs l.numbers) l.initial.blocks end;
}
