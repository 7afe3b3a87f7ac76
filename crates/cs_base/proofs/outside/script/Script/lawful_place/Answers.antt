use Rattle.std.proofs.Common.{◌∙◌, arith}
use Rattle.cs_base.specs.outside.ScriptedHub.{is_lawful}
use Rattle.cs_base.specs.outside.ScriptParts.{connected, hub_of}
use Rattle.cs_base.proofs.Scripts.{goes_on}
use Rattle.cs_base.proofs.outside.script.Script.lawful_place.Goals as goal

pub loop-place-preserved : goal.loop-place-preserved
loop-place-preserved c =
    goes_on (is_lawful (hub_of c.args.conns (connected c.args.connections.now))) c.args.self.now c.loop-place.place (omega arith) (omega arith) (c.if-may_come.ensures)
    ∙ c.loop-place.invariant
