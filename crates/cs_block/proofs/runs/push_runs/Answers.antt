use Rattle.cs_block.proofs.RulePasses.{pushing}
use Rattle.cs_block.proofs.runs.push_runs.Goals as goal

pub loop-reached-init : goal.loop-reached-init
loop-reached-init c = pushing c.args.weights c.args.head.now c.args.docs _ c.args.into.now.posts c.args.into.now.room c.requires.room
