use Rattle.std.proofs.Common.{◌*◌, ◌≤◌, List, ℕ, length, replicate, true}
use Rattle.cs_file.specs.Indexes.{StandsFor}
use Rattle.cs_model_index.specs.Sections.{image_of}
use Rattle.cs_rows.specs.Counting.{counted_rows}
use Rattle.cs_rows.proofs.blockwise.are_many.Given as goal

abbrev pub invariant-loop-k : goal.invariant-loop-k
invariant-loop-k l = record {
  rows : (b : List ℕ) → StandsFor b l.index → l.rows ≤ length (counted_rows (image_of b).blocks l.first l.k l.words.0 l.words.1 (replicate l.index.docs true));
  small : l.rows ≤ 4294967296 * l.k;
  from : l.first ≤ l.k;
}
