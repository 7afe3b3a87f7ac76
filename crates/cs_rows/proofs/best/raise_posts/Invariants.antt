use Rattle.std.proofs.Common.{◌≡◌, ◌++◌, List, take, length}
use Rattle.std.specs.Prelude.{filter}
use Rattle.cs_base.specs.declared.content.doc.Post.{Post}
use Rattle.cs_tables.specs.WordCounts.{is_chosen}
use Rattle.cs_rows.specs.BestScores.{HasBestScores}
use Rattle.cs_rows.proofs.best.raise_posts.Given as goal

abbrev pub invariant-loop-row : goal.invariant-loop-row
invariant-loop-row l = record {
  best : (seen : List Post) → HasBestScores seen l.fn.best
      → HasBestScores (seen ++ filter (is_chosen l.words.0 l.words.1 l.listed) (take l.row-index l.rows)) l.best;
  len : length l.best ≡ length l.fn.best;
}
