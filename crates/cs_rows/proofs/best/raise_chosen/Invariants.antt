use Rattle.std.proofs.Common.{◌≡◌, ◌++◌, List, take, length}
use Rattle.std.specs.Prelude.{filter}
use Rattle.cs_base.specs.declared.content.doc.Post.{Post}
use Rattle.cs_file.specs.CallAnswers.{AreScoredOf}
use Rattle.cs_tables.specs.WordCounts.{is_chosen}
use Rattle.cs_rows.specs.BestScores.{HasBestScores}
use Rattle.cs_rows.proofs.best.raise_chosen.Given as goal

abbrev pub invariant-loop-i : goal.invariant-loop-i
invariant-loop-i l = record {
  best : (rows : List Post) → AreScoredOf rows l.docs l.row_words l.scores → (seen : List Post) → HasBestScores seen l.fn.best
      → HasBestScores (seen ++ filter (is_chosen l.lo l.hi l.listed) (take l.i rows)) l.best;
  len : length l.best ≡ length l.fn.best;
}
