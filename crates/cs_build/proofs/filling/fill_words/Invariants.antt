use Rattle.std.proofs.Common.{◌≡◌, ◌+◌, List, drop}
use Rattle.cs_cols.specs.declared.cols.Cols.{Cols}
use Rattle.cs_build.specs.RowColumns.{word_posts}
use Rattle.cs_build.specs.WordRuns.{AreTaken, CanTake}
use Rattle.cs_build.proofs.filling.fill_words.Given as goal

abbrev pub invariant-loop-number : goal.invariant-loop-number
invariant-loop-number l = record {
  place : l.at ≡ l.pos + l.number-index;
  can : CanTake l.places l.blocks (word_posts l.doc l.score l.at (drop l.number-index l.numbers));
  goes : (end : List Cols) → AreTaken l.places (word_posts l.doc l.score l.at (drop l.number-index l.numbers)) l.blocks end → AreTaken l.places (word_posts l.doc l.score l.pos l.numbers) l.initial.blocks end;
}
