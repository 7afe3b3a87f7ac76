use Rattle.std.proofs.Common.{length, ◌≡◌, subst, sym, ap, ◌∙◌}
use Rattle.cs_base.specs.outside.Hub.{came_of, Happens}
use Rattle.cs_base.specs.outside.ScriptedHub.{comes, playable, played, next_called}
use Rattle.cs_base.specs.outside.ScriptParts.{connected, left_in}
use Rattle.cs_base.proofs.Playing.{orderly, state_of, IsInOrder}
use Rattle.cs_base.proofs.outside.script_hub.ScriptHubHub.next.Goals as goal

pub returns-then-count_call-clause-orderly : goal.returns-then-count_call-clause-orderly
returns-then-count_call-clause-orderly c =
    subst IsInOrder (sym c.miss.ensures)
    (orderly c.self.inside.port c.self.inside.conns c.self.inside.over c.self.inside.connections.list.items (left_in c.self.inside.script) c.self.inside.came.items c.self.invariant)

pub returns-in-Ok-clause-ok : goal.returns-in-Ok-clause-ok
returns-in-Ok-clause-ok c =
    c.in-Ok.ensures.ok
    ∙ ap (λ n. played (length c.args.into.now) (state_of c.self.inside.port c.self.inside.conns c.self.inside.over (connected c.self.inside.connections) c.self.inside.came.items (left_in c.self.inside.script) n c.self.inside.send_calls.items c.self.inside.faults c.self.inside.send_faults)) c.count_call.ensures.left
    ∙ ap (λ s. next_called (played (length c.args.into.now) s)) c.self.view_is

pub returns-in-Ok-clause-event : goal.returns-in-Ok-clause-event
returns-in-Ok-clause-event c =
    subst (λ s. came_of c.in-Ok.event c.play.new.into ≡ comes s.hub (length c.args.into.now) (playable s.hub s.left)) c.self.view_is c.in-Ok.ensures.event

pub returns-in-Ok-clause-happens : goal.returns-in-Ok-clause-happens
returns-in-Ok-clause-happens c = subst (λ s. Happens s.hub (length c.args.into.now) c.in-Ok.event c.play.new.self.hub) c.self.view_is c.in-Ok.ensures.happens

pub returns-in-Ok-clause-orderly : goal.returns-in-Ok-clause-orderly
returns-in-Ok-clause-orderly c = c.play.ensures.orderly

pub returns-in-Err-clause-orderly : goal.returns-in-Err-clause-orderly
returns-in-Err-clause-orderly c = subst IsInOrder (sym c.miss-in-Err.ensures) c.play.ensures.orderly
