use Rattle.std.proofs.Common.{◌≡◌, [], ◌∷◌, ◌++◌, sym, subst, ◌∙◌, take, get_or, arith}
use Rattle.std.proofs.lemmas.List.{take_all, take_more}
use Rattle.cs_build.specs.WordRuns.{AreFilled}
use Rattle.cs_build.specs.declared.parting.Run.{Run}
use Rattle.cs_build.proofs.FillLemmas.{one_block}
use Rattle.cs_build.proofs.filling.empty_blocks.Goals as goal

pub loop-run-preserved : goal.loop-run-preserved
loop-run-preserved c =
    let run : Run = get_or c.args.runs.now c.loop-run.run-index (record { lo = 0; words = 0; rows = 0 }) in
    let none : c.reserve.new.self.posts ≡ [] = c.reserve.ensures.posts ∙ c.new-block.ensures in
    subst (λ rs. AreFilled [] rs c.push.new.self.items) (sym (take_more c.args.runs.now c.loop-run.run-index (record { lo = 0; words = 0; rows = 0 }) c.loop-run-test.true))
    (subst (AreFilled [] (take c.loop-run.run-index c.args.runs.now ++ run ∷ [])) (sym c.in_ok-push.ensures.items)
    (one_block [] (take c.loop-run.run-index c.args.runs.now) c.loop-run.blocks.items run c.reserve.new.self c.loop-run.invariant none (omega (arith, c.in_ok-reserve.ensures.ok))))

pub returns : goal.returns
returns c = subst (λ rs. AreFilled [] rs c.loop-run.blocks.items) (take_all c.loop-run.run-index c.args.runs.now (omega (arith, c.loop-run-test.false))) c.loop-run.invariant
