use Rattle.std.proofs.Common.{◌≡◌, ◌++◌, List, take, length}
use Rattle.cs_base.specs.declared.content.doc.Post.{Post}
use Rattle.cs_tables.specs.WordCounts.{AreCountable, HasCounted}
use Rattle.cs_rows.specs.BestScores.{HasBestScores}
use Rattle.cs_rows.proofs.chosen.note_rows.Given as goal

abbrev pub invariant-loop-row : goal.invariant-loop-row
invariant-loop-row l = record {
  counted : (seen : List Post) → AreCountable (seen ++ l.rows) → HasCounted seen l.fn.counts → HasCounted (seen ++ take l.row-index l.rows) l.counts;
  best : (seen : List Post) → HasBestScores seen l.fn.best → HasBestScores (seen ++ take l.row-index l.rows) l.best;
  low : l.counts.low ≡ l.fn.counts.low;
  high : l.counts.high ≡ l.fn.counts.high;
  len : length l.best ≡ length l.fn.best;
}
