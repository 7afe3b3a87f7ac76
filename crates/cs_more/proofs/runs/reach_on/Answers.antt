use Rattle.std.proofs.Common.{arith}
use Rattle.cs_more.proofs.RunsReached.{reach_step}
use Rattle.cs_more.proofs.runs.reach_on.Goals as goal

pub loop-i-preserved : goal.loop-i-preserved
loop-i-preserved c = reach_step c.args.parts.now c.loop-i.reached.items c.loop-i.i c.args.place c.reach_of.result c.index.result.now c.index-parts-i.result (omega (arith, c.loop-i-test.true)) c.loop-i.invariant c.index-parts-i.is c.index.ensures c.reach_of.ensures
