use Rattle.std.proofs.Common.{◌+◌, ◌-◌, arith}
use Rattle.cs_meet.proofs.Halving.{all_through}
use Rattle.cs_meet.proofs.skip.skip_to.Goals as goal

pub overflow_add-lo : goal.overflow_add-lo
overflow_add-lo c = omega (arith, c.reaches_before.ensures.there c.loop-lo-test.true, c.reaches_before.ensures.small)

pub overflow_mul-step : goal.overflow_mul-step
overflow_mul-step c = omega (arith, c.reaches_before.ensures.there c.loop-lo-test.true, c.reaches_before.ensures.small)

pub loop-lo-preserved : goal.loop-lo-preserved
loop-lo-preserved c =
    let a = c.args.posts.now.posts in
    let there = c.reaches_before.ensures.there c.loop-lo-test.true in
    record {
      onward = omega arith;
      within = omega arith;
      some = omega arith;
      before = all_through a (c.loop-lo.lo + (c.loop-lo.step - 1)) c.args.doc c.args.pos c.requires.sorted (omega arith) (c.reaches_before.ensures.yes c.loop-lo-test.true) (c.loop-lo.lo + c.loop-lo.step) (omega arith);
    }
