use Rattle.std.proofs.Common.{length, subst, sym, ap, ◌∙◌, ◌≡◌}
use Rattle.cs_base.specs.outside.Hub.{came_of, Happens}
use Rattle.cs_base.specs.outside.ScriptedHub.{comes, playable, played}
use Rattle.cs_base.specs.outside.ScriptParts.{connected, left_in, IsKept}
use Rattle.cs_base.proofs.Playing.{kept, played_so, came_happens, orderly, IsInOrder, hub_in, event_of, popped, on_ok, on_err}
use Rattle.cs_base.proofs.outside.script_hub.ScriptHub.play.Goals as goal

pub invariant_of-self-2 : goal.invariant_of-self-2
invariant_of-self-2 c =
    kept c.self.inside.port c.self.inside.conns (length c.args.into.now) c.self.inside.over c.self.inside.connections.list.items (left_in c.self.inside.script) _ c.turn-turn.result.event _
    c.self.inside.came.items c.push.new.self.items c.in_ok-heard.heard _ c.self.invariant
    (sym (event_of c.turn-turn.result.event c.turn-turn.new.into) ∙ ap (λ v. v.event) c.turn-turn.ensures.came)
    (on_ok c.hear.result c.if-is_err.ensures.value c.hear.ensures.ok)
    c.turn-turn.ensures.left
    (ap (λ v. v.event) c.in_ok-heard.ensures ∙ event_of c.turn-turn.result.event c.turn-turn.new.into)
    c.in_ok-push.ensures.items
    c.is_over-self-inside.ensures

pub returns-clause-event : goal.returns-clause-event
returns-clause-event c =
    subst (λ s. came_of c.turn-turn.result.event c.turn-turn.new.into ≡ comes s.hub (length c.args.into.now) (playable s.hub s.left)) c.self.view_is c.turn-turn.ensures.came

pub returns-clause-ok : goal.returns-clause-ok
returns-clause-ok c =
    played_so c.self.inside.port c.self.inside.conns (length c.args.into.now) c.self.inside.over c.self.inside.connections.list.items (left_in c.self.inside.script) _ c.turn-turn.result.event _
    c.self.inside.came.items c.push.new.self.items c.in_ok-heard.heard _ c.turn-turn.new.into _ _ _ _ c.self.invariant
    c.turn-turn.ensures.came
    (on_ok c.hear.result c.if-is_err.ensures.value c.hear.ensures.ok)
    c.turn-turn.ensures.left
    c.in_ok-heard.ensures
    c.in_ok-push.ensures.items
    c.is_over-self-inside.ensures
    ∙ ap (played (length c.args.into.now)) c.self.view_is

pub returns-clause-happens : goal.returns-clause-happens
returns-clause-happens c =
    subst (λ s. Happens s.hub (length c.args.into.now) c.turn-turn.result.event (hub_in c.self.inside.port c.self.inside.conns c.is_over-self-inside.result (connected c.hear.new.self))) c.self.view_is
    (came_happens c.self.inside.port c.self.inside.conns (length c.args.into.now) c.self.inside.over c.self.inside.connections.list.items (left_in c.self.inside.script) c.turn-turn.result.event _
    c.self.inside.came.items _ c.requires c.self.invariant
    (sym (event_of c.turn-turn.result.event c.turn-turn.new.into) ∙ ap (λ v. v.event) c.turn-turn.ensures.came)
    (on_ok c.hear.result c.if-is_err.ensures.value c.hear.ensures.ok)
    c.is_over-self-inside.ensures)

pub returns-clause-orderly : goal.returns-clause-orderly
returns-clause-orderly c = orderly c.self.inside.port c.self.inside.conns c.is_over-self-inside.result c.hear.new.self.list.items _ c.push.new.self.items (invariant_of-self-2 c)

pub returns-in_err-heard-clause-orderly : goal.returns-in_err-heard-clause-orderly
returns-in_err-heard-clause-orderly c =
    subst IsInOrder c.self.view_is
    (orderly c.self.inside.port c.self.inside.conns c.self.inside.over c.self.inside.connections.list.items (left_in c.self.inside.script) c.self.inside.came.items c.self.invariant)

pub returns-in_err-push-clause-orderly : goal.returns-in_err-push-clause-orderly
returns-in_err-push-clause-orderly c =
    orderly c.self.inside.port c.self.inside.conns c.self.inside.over c.self.inside.connections.list.items (left_in c.self.inside.script) c.push.new.self.items
    (subst (λ hs. IsKept c.self.inside.over (left_in c.self.inside.script) (length c.self.inside.connections.list.items) hs) (sym c.in_err-push.ensures.items) c.self.invariant)

pub invariant_of-self-then-is_err : goal.invariant_of-self-then-is_err
invariant_of-self-then-is_err c =
    let same = popped c.self.inside.came.items c.push.new.self.items c.pop.new.self.items c.in_ok-heard.heard _ _ c.in_ok-push.ensures.items c.pop.ensures.rest c.in_ok-push.ensures.len c.self.inside.came.ok.0 in
    let opened = ap (λ x. x.opened) (on_err c.hear.result (sym c.if-is_err.ensures.value) c.hear.ensures.err) in
    subst (λ n. IsKept c.self.inside.over (left_in c.self.inside.script) n c.pop.new.self.items) (sym opened)
    (subst (λ hs. IsKept c.self.inside.over (left_in c.self.inside.script) (length c.self.inside.connections.list.items) hs) (sym same) c.self.invariant)

pub returns-then-is_err-clause-orderly : goal.returns-then-is_err-clause-orderly
returns-then-is_err-clause-orderly c =
    orderly c.self.inside.port c.self.inside.conns c.self.inside.over c.hear.new.self.list.items (left_in c.self.inside.script) c.pop.new.self.items (invariant_of-self-then-is_err c)
