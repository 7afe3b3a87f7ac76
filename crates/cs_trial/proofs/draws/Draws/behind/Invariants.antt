use Rattle.std.proofs.Common.{◌≡◌}
use Rattle.cs_model_trial.specs.Generator.{behind}
use Rattle.cs_trial.proofs.JumpLemmas.{jumps}
use Rattle.cs_trial.proofs.draws.Draws.behind.Given as goal

-- the draws that are left, jump by jump, from the state behind those that were taken
abbrev pub invariant-loop-left : goal.invariant-loop-left
invariant-loop-left l = jumps l.jump l.left l.state ≡ behind l.count l.n

abbrev pub decreases-loop-left : goal.decreases-loop-left
decreases-loop-left l = l.left
