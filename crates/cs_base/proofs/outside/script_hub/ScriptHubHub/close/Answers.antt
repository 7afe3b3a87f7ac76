use Rattle.std.proofs.Common.{subst, sym, ap}
use Rattle.cs_base.specs.outside.ScriptParts.{left_in, IsKept}
use Rattle.cs_base.proofs.Playing.{orderly}
use Rattle.cs_base.proofs.outside.script_hub.ScriptHubHub.close.Goals as goal

pub returns-clause-orderly : goal.returns-clause-orderly
returns-clause-orderly c =
    orderly c.self.inside.port c.self.inside.conns c.self.inside.over c.end.new.self.list.items (left_in c.self.inside.script) c.self.inside.came.items
    (subst (λ n. IsKept c.self.inside.over (left_in c.self.inside.script) n c.self.inside.came.items) (sym (ap (λ x. x.opened) c.end.ensures)) c.self.invariant)
