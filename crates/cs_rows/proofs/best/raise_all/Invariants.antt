use Rattle.std.proofs.Common.{◌≡◌, ◌++◌, List, map, take, length}
use Rattle.cs_base.specs.declared.content.doc.Post.{Post}
use Rattle.cs_rows.specs.BestScores.{HasBestScores}
use Rattle.cs_rows.specs.Packing.{post_of_key}
use Rattle.cs_rows.proofs.best.raise_all.Given as goal

abbrev pub invariant-loop-key : goal.invariant-loop-key
invariant-loop-key l = record {
  best : (seen : List Post) → HasBestScores seen l.fn.best → HasBestScores (seen ++ map (post_of_key l.weights) (take l.key-index l.keys)) l.best;
  len : length l.best ≡ length l.fn.best;
}
