use Rattle.std.proofs.Common.{subst, sym, false}
use Rattle.cs_base.specs.outside.ScriptParts.{left_in}
use Rattle.cs_base.proofs.Playing.{orderly, nothing_kept, IsInOrder}
use Rattle.cs_base.proofs.outside.script_hub.ScriptHubHub.listen.Goals as goal

pub returns-then-count_call-clause-orderly : goal.returns-then-count_call-clause-orderly
returns-then-count_call-clause-orderly c =
    subst IsInOrder (sym c.miss.ensures)
    (orderly c.self.inside.port c.self.inside.conns c.self.inside.over c.self.inside.connections.list.items (left_in c.self.inside.script) c.self.inside.came.items c.self.invariant)

pub returns-clause-orderly : goal.returns-clause-orderly
returns-clause-orderly c =
    orderly c.args.port c.args.conns false c.clear.new.self.list.items (left_in c.self.inside.script) c.clear-2.new.self.items
    (nothing_kept (left_in c.self.inside.script) _ c.clear-2.new.self.items c.clear-2.ensures.items)
