use Rattle.std.proofs.Common.{◌≡◌, ◌/◌, sym, ap, ◌∙◌, refl, arith}
use Rattle.cs_model_trial.specs.Generator.{behind}
use Rattle.cs_trial.proofs.JumpLemmas.{jumps, jumps_behind, jumps_even, jumps_odd}
use Rattle.cs_trial.proofs.draws.Draws.behind.Goals as goal
use Rattle.cs_trial.proofs.draws.Draws.behind.Goals.{then-left-eq1, else-left-eq1}

pub loop-left-init : goal.loop-left-init
loop-left-init c = jumps_behind (record { times = 6364136223846793005; plus = 1442695040888963407 }) c.args.count c.from-state.result refl refl ∙ ap (behind c.args.count) c.from-state.ensures

pub loop-left-preserved : goal.loop-left-preserved
loop-left-preserved c =
    let l = c.loop-left in
    elim c.if-left-eq1.branch [
      | then-left-eq1 w ↦
          ap (jumps c.twice-jump.result (l.left / 2)) (w.state-is ∙ w.from-state-then-left-eq1.ensures)
          ∙ jumps_odd l.jump c.twice-jump.result l.left l.state c.twice-jump.ensures w.if-left-eq1.true ∙ l.invariant
      | else-left-eq1 w ↦
          ap (jumps c.twice-jump.result (l.left / 2)) w.state-is
          ∙ jumps_even l.jump c.twice-jump.result l.left l.state c.twice-jump.ensures w.if-left-eq1.false ∙ l.invariant
    ]

pub returns : goal.returns
unfolding jumps
returns c =
    let done : c.loop-left.left ≡ 0 = omega (arith, c.loop-left-test.false) in
    sym (ap (λ n. jumps c.loop-left.jump n c.loop-left.state) done) ∙ c.loop-left.invariant
