use Rattle.std.proofs.Common.{◌+◌, ◌-◌, arith}
use Rattle.cs_meet.proofs.Listed.{below_through}
use Rattle.cs_meet.proofs.documents.leap_docs.Goals as goal

pub loop-lo-preserved : goal.loop-lo-preserved
loop-lo-preserved c =
    let docs = c.args.docs.now in
    let there = c.reaches_below.ensures.there c.loop-lo-test.true in
    record {
      within = omega arith;
      some = omega arith;
      below = below_through docs (c.loop-lo.lo + (c.loop-lo.step - 1)) c.args.doc c.requires.sorted (omega arith) (c.reaches_below.ensures.yes c.loop-lo-test.true) (c.loop-lo.lo + c.loop-lo.step) (omega arith);
    }

pub overflow_add-lo : goal.overflow_add-lo
overflow_add-lo c = omega (arith, c.reaches_below.ensures.there c.loop-lo-test.true, c.reaches_below.ensures.small)

pub overflow_mul-step : goal.overflow_mul-step
overflow_mul-step c = omega (arith, c.reaches_below.ensures.there c.loop-lo-test.true, c.reaches_below.ensures.small)
