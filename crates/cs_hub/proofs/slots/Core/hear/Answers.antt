use Rattle.std.proofs.Common.{sym, ◌∙◌, ap, subst, slice_set}
use Rattle.std.proofs.lemmas.List.{set-set}
use Rattle.std.specs.Prelude.{Some}
use Rattle.cs_hub.specs.Turns.{Received}
use Rattle.cs_hub.proofs.ConnectionSlots.{held_set, held_within}
use Rattle.cs_hub.proofs.AskedLemmas.{asks_of_line}
use Rattle.cs_hub.proofs.ActLemmas.{heeds_acted, heeds_lighter}
use Rattle.cs_hub.proofs.slots.Core.hear.Goals as goal

pub settle-requires : goal.settle-requires
settle-requires g c = record {
  held = held_set c.args.self.now c.replace-line.new.self c.args.conn c.new.result c.requires.held c.replace-line.ensures.replaced;
}

pub returns-clause-heeds : goal.returns-clause-heeds
returns-clause-heeds g c = record {
  old = c.replace-line.result;
  was = c.replace-line.ensures.value;
  kept = c.receive-kept.result;
  received = subst (λ t. Received (g.A.Answerer.answers c.args.answerer.now) c.args.conn c.replace-line.result c.args.piece.now c.receive-kept.result
      (g.A.Answerer.faults c.args.answerer.now) (g.A.Answerer.faults c.receive-kept.new.answerer) (g.H.Hub.talk c.args.hub.now) t) (sym c.settle.ensures.closes.talk)
      c.receive-kept.ensures.received;
  acted = heeds_acted c.args.self.now c.replace-line.new.self c.settle.new.self c.args.conn (Some c.new.result) c.receive-kept.result (g.H.Hub.state c.args.hub.now)
      (g.H.Hub.state c.receive-kept.new.hub) (g.H.Hub.state c.settle.new.hub)
      c.replace-line.ensures.replaced c.settle.ensures.core c.receive-kept.ensures.calm.state c.settle.ensures.state
      (held_within c.args.self.now c.args.conn c.requires.held) c.requires.live;
}

pub returns-clause-lighter : goal.returns-clause-lighter
returns-clause-lighter g c =
    heeds_lighter (g.A.Answerer.answers c.args.answerer.now) c.args.self.now c.settle.new.self c.args.conn c.replace-line.result c.args.piece.now c.receive-kept.result
    (g.A.Answerer.faults c.args.answerer.now) (g.A.Answerer.faults c.receive-kept.new.answerer) (g.H.Hub.talk c.args.hub.now)
    (g.H.Hub.talk c.receive-kept.new.hub)
    (c.settle.ensures.core ∙ ap (λ k. slice_set k c.args.conn c.receive-kept.result) c.replace-line.ensures.replaced
    ∙ set-set c.args.self.now c.args.conn (Some c.new.result) c.receive-kept.result)
    c.replace-line.ensures.value c.receive-kept.ensures.room c.requires.some c.receive-kept.ensures.received

pub returns-clause-asked : goal.returns-clause-asked
returns-clause-asked g c =
    let now = g.A.Answerer.kept c.args.answerer.now in
    let then = g.A.Answerer.kept c.receive-kept.new.answerer in
    asks_of_line g.A.Answerer.leaves c.args.conn c.args.self.now c.settle.new.self c.replace-line.result c.args.piece.now c.receive-kept.result now then
    (g.H.Hub.talk c.args.hub.now) (g.H.Hub.talk c.receive-kept.new.hub) (g.H.Hub.talk c.settle.new.hub)
    (c.settle.ensures.core ∙ ap (λ k. slice_set k c.args.conn c.receive-kept.result) c.replace-line.ensures.replaced
    ∙ set-set c.args.self.now c.args.conn (Some c.new.result) c.receive-kept.result)
    (held_within c.args.self.now c.args.conn c.requires.held) (sym c.replace-line.ensures.value) c.settle.ensures.closes.talk c.receive-kept.ensures.asked
