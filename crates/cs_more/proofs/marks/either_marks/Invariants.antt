use Rattle.std.proofs.Common.{◌≡◌, ◌++◌, map, drop}
use Rattle.std.specs.Prelude.{◌||◌}
use Rattle.std.specs.List.{enumerate_from}
use Rattle.cs_model_excerpts.specs.OwnWords.{either_marks}
use Rattle.cs_model_excerpts.specs.Runs.{has_mark_at}
use Rattle.cs_more.proofs.marks.either_marks.Given as goal

abbrev pub invariant-loop-place : goal.invariant-loop-place
invariant-loop-place l = either_marks l.a l.b ≡ l.marks.items ++ map (λ p. p.1 || has_mark_at l.a p.0) (enumerate_from l.place (drop l.place l.b))
