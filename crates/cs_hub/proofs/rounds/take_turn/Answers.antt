use Rattle.std.proofs.Common.{refl, sym, ◌∙◌, ap, length}
use Rattle.std.specs.Option.{option_map}
use Rattle.cs_base.specs.outside.Hub.{hears}
use Rattle.cs_hub.proofs.PieceTurns.{leaves_none}
use Rattle.cs_hub.proofs.RoundLemmas.{before_step}
use Rattle.cs_hub.proofs.TotalLemmas.{asks_as, asks_next}
use Rattle.cs_hub.proofs.rounds.take_turn.Goals as goal

pub step-requires-clause-live : goal.step-requires-clause-live
step-requires-clause-live g c =
    before_step c.args.core.now (g.H.Hub.state c.args.hub.now) (g.H.Hub.state c.next.new.self) (g.H.Hub.talk c.args.hub.now) (length c.args.buffer.now)
    c.in-Ok.event c.requires.live c.requires.orderly c.in-Ok.ensures.event

pub returns-in-Ok-clause-served : goal.returns-in-Ok-clause-served
returns-in-Ok-clause-served g c = λ b told stands good n h.
    (c.step.ensures.follows b told stands good).stays (g.H.Hub.state c.args.hub.now) (g.H.Hub.talk c.args.hub.now) (length c.args.buffer.now) n h (record {
      happens = c.in-Ok.ensures.event;
      came = c.in-Ok.ensures.came ∙ ap (λ e. option_map (hears e) (g.H.Hub.talk c.args.hub.now)) (sym c.piece_of.ensures.came);
      orderly = c.in-Ok.ensures.orderly;
    })

pub returns-in-Ok-clause-asked : goal.returns-in-Ok-clause-asked
returns-in-Ok-clause-asked g c =
    asks_next (g.S.Store.bytes c.args.store.now) c.in-Ok.event c.piece_of.result.now c.args.core.now c.step.new.self (g.H.Hub.state c.args.hub.now)
    (g.H.Hub.state c.next.new.self) (g.H.Hub.state c.step.new.hub) (g.H.Hub.talk c.args.hub.now) (g.H.Hub.talk c.next.new.self)
    (g.H.Hub.talk c.step.new.hub) c.args.engine.now c.step.new.engine (g.S.Store.reads c.args.store.now) (g.S.Store.reads c.step.new.store)
    (g.S.Store.faults c.args.store.now) (g.S.Store.faults c.step.new.store) (record {
      room = length c.args.buffer.now;
      orderly = c.requires.orderly;
      happens = c.in-Ok.ensures.event;
      but = before_step c.args.core.now (g.H.Hub.state c.args.hub.now) (g.H.Hub.state c.next.new.self) (g.H.Hub.talk c.args.hub.now)
          (length c.args.buffer.now) c.in-Ok.event c.requires.live c.requires.orderly c.in-Ok.ensures.event;
      whole = c.piece_of.ensures.whole;
      heard = c.in-Ok.ensures.came ∙ ap (λ e. option_map (hears e) (g.H.Hub.talk c.args.hub.now)) (sym c.piece_of.ensures.came);
      came = c.step.ensures.steps.came;
      others = c.step.ensures.steps.others;
      over = c.step.ensures.steps.over;
      acts = c.step.ensures.acts;
      answers = c.step.ensures.reads;
    })

pub returns-in-Err-clause-asked : goal.returns-in-Err-clause-asked
returns-in-Err-clause-asked g c = λ e m n a.
    asks_as (g.S.Store.bytes c.args.store.now) c.args.core.now c.args.core.now e c.args.engine.now m (g.S.Store.reads c.args.store.now) n
    (g.S.Store.faults c.args.store.now) (g.H.Hub.talk c.args.hub.now) (g.H.Hub.talk c.next.new.self) refl c.in-Err.ensures.err.1 a

pub returns-in-Err-clause-leaves : goal.returns-in-Err-clause-leaves
returns-in-Err-clause-leaves g c = leaves_none c.args.engine.now c.args.store.now
