use Rattle.std.proofs.Common.{ap, ◌∙◌, refl}
use Rattle.cs_base.specs.outside.ScriptParts.{connected_of}
use Rattle.cs_base.proofs.Connected.{opened_next}
use Rattle.cs_base.proofs.outside.connections.Connections.open.Goals as goal

pub returns-clause-ok : goal.returns-clause-ok
returns-clause-ok c = ap connected_of c.in_ok-push.ensures.items ∙ opened_next c.args.self.now.list.items _ refl refl refl
