use Rattle.std.proofs.Common.{◌≡◌, ◌++◌, map, drop}
use Rattle.std.specs.Prelude.{◌&&◌}
use Rattle.std.specs.List.{enumerate_from}
use Rattle.cs_model_excerpts.specs.OwnWords.{is_led, linked_marks}
use Rattle.cs_more.proofs.marks.linked_marks.Given as goal

abbrev pub invariant-loop-place : goal.invariant-loop-place
invariant-loop-place l = linked_marks l.link l.kept l.next ≡ l.marks.items ++ map (λ p. p.1 && is_led l.link l.kept p.0) (enumerate_from l.place (drop l.place l.next))
