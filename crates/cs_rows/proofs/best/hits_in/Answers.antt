use Rattle.std.proofs.Common.{◌∙◌, length, refl, sym, arith}
use Rattle.std.proofs.lemmas.List.{get_or_default}
use Rattle.cs_base.specs.declared.content.scores.TheConstants.{MAX_ROW_SCORE}
use Rattle.cs_rows.proofs.BestLemmas.{hits_all, hits_fit}
use Rattle.cs_rows.proofs.best.hits_in.Goals as goal

pub loop-from-preserved : goal.loop-from-preserved
loop-from-preserved c =
    record { told = c.in_ok-hits.ensures ∙ c.loop-from.invariant.told; within = omega (arith, c.min.ensures, c.loop-from-test.true) }

pub returns-clause-hits : goal.returns-clause-hits
returns-clause-hits c =
    hits_all _ c.loop-from.hits.items c.args.best.now c.loop-from.from (omega (arith, c.loop-from-test.false)) (sym c.loop-from.invariant.told)

pub returns-clause-fit : goal.returns-clause-fit
returns-clause-fit c =
    let best = c.args.best.now in
    hits_fit (length best) MAX_ROW_SCORE best _ refl (λ j d lt. let byte = c.type_inv.best j in omega (arith, byte, get_or_default best j d 0 lt))
    (hits_all _ c.loop-from.hits.items best c.loop-from.from (omega (arith, c.loop-from-test.false)) (sym c.loop-from.invariant.told))
