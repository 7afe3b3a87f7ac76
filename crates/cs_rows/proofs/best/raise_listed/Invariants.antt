use Rattle.std.proofs.Common.{◌≡◌, ◌++◌, ℕ, List, take, length}
use Rattle.std.specs.Prelude.{filter}
use Rattle.cs_base.specs.declared.content.doc.Post.{Post}
use Rattle.cs_file.specs.CallAnswers.{AreScoredOf}
use Rattle.cs_tables.specs.WordCounts.{is_of_listed}
use Rattle.cs_rows.specs.BestScores.{HasBestScores}
use Rattle.cs_rows.proofs.best.raise_listed.Given as goal

abbrev pub invariant-loop-i : goal.invariant-loop-i
invariant-loop-i l = record {
  best : (rows : List Post) (words : List ℕ) → AreScoredOf rows l.docs words l.scores → (seen : List Post) → HasBestScores seen l.fn.best
      → HasBestScores (seen ++ filter (is_of_listed l.listed) (take l.i rows)) l.best;
  len : length l.best ≡ length l.fn.best;
}
