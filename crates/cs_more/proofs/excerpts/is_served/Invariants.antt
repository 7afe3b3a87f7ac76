use Rattle.std.proofs.Common.{◌≡◌, drop}
use Rattle.std.specs.List.{list_any}
use Rattle.cs_model_excerpts.specs.Runs.{has_mark_at}
use Rattle.cs_more.proofs.excerpts.is_served.Given as goal

abbrev pub invariant-loop-own : goal.invariant-loop-own
invariant-loop-own l = list_any (λ m. has_mark_at m l.place) l.marks ≡ list_any (λ m. has_mark_at m l.place) (drop l.own-index l.marks)
