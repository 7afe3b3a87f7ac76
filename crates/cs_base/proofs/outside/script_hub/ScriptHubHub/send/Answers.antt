use Rattle.std.proofs.Common.{◌≡◌, true, subst, sym, ap}
use Rattle.std.specs.FinSet as set
use Rattle.cs_base.specs.outside.ScriptParts.{left_in, IsKept}
use Rattle.cs_base.proofs.Playing.{orderly, opened_live, IsInOrder}
use Rattle.cs_base.proofs.outside.script_hub.ScriptHubHub.send.Goals as goal

pub break_off-requires : goal.break_off-requires
break_off-requires c = opened_live c.self.inside.connections.list.items c.args.conn (subst (λ s. set.contains s.hub.live c.args.conn ≡ true) (sym c.self.view_is) c.requires.live)

pub add-requires : goal.add-requires
add-requires c = record { opened = opened_live c.self.inside.connections.list.items c.args.conn (subst (λ s. set.contains s.hub.live c.args.conn ≡ true) (sym c.self.view_is) c.requires.live) }

pub returns-then-count_call-clause-orderly : goal.returns-then-count_call-clause-orderly
returns-then-count_call-clause-orderly c =
    subst IsInOrder (sym c.miss_send.ensures)
    (orderly c.self.inside.port c.self.inside.conns c.self.inside.over c.break_off.new.self.list.items (left_in c.self.inside.script) c.self.inside.came.items
    (subst (λ n. IsKept c.self.inside.over (left_in c.self.inside.script) n c.self.inside.came.items) (sym (ap (λ x. x.opened) c.break_off.ensures)) c.self.invariant))

pub returns-in-Ok-clause-orderly : goal.returns-in-Ok-clause-orderly
returns-in-Ok-clause-orderly c =
    orderly c.self.inside.port c.self.inside.conns c.self.inside.over c.add.new.self.list.items (left_in c.self.inside.script) c.self.inside.came.items
    (subst (λ n. IsKept c.self.inside.over (left_in c.self.inside.script) n c.self.inside.came.items) (sym (ap (λ x. x.opened) c.in-Ok.ensures.ok)) c.self.invariant)

pub returns-in-Err-clause-orderly : goal.returns-in-Err-clause-orderly
returns-in-Err-clause-orderly c =
    subst IsInOrder (sym c.miss_send-in-Err.ensures)
    (orderly c.self.inside.port c.self.inside.conns c.self.inside.over c.add.new.self.list.items (left_in c.self.inside.script) c.self.inside.came.items
    (subst (λ n. IsKept c.self.inside.over (left_in c.self.inside.script) n c.self.inside.came.items) (sym (ap (λ x. x.opened) c.in-Err.ensures.err)) c.self.invariant))
