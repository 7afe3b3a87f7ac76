use Rattle.std.proofs.Common.{◌≡◌, ℕ, ◌<◌, true, get_or}
use Rattle.std.specs.Prelude.{Some}
use Rattle.cs_base.specs.declared.content.doc.Scored.{Scored}
use Rattle.cs_rank.specs.Kept.{is_behind}
use Rattle.cs_rank.proofs.best.are_behind.Given as goal

abbrev pub invariant-loop-s : goal.invariant-loop-s
invariant-loop-s l = l.behind ≡ true → (k : ℕ) (d : Scored) → k < l.s-index → is_behind (get_or l.span k d) (Some l.worst) ≡ true
