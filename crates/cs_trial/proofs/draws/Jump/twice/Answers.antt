use Rattle.std.proofs.Common.{ap, ◌∙◌, ◌+◌, ◌*◌, ◌%◌, ◌^◌, ℕ}
use Rattle.cs_trial.proofs.JumpLemmas.{twice_is}
use Rattle.cs_trial.proofs.draws.Jump.twice.Goals as goal

pub returns : goal.returns
returns c = λ x.
    let t = c.args.self.times in
    ap (λ (p : ℕ). (x * (t * t % 2 ^ 64) + p) % 2 ^ 64) c.from.ensures ∙ twice_is t c.args.self.plus x
