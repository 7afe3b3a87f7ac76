use Rattle.std.proofs.Common.{◌++◌, drop}
use Rattle.std.specs.Prelude.{false, is_some}
use Rattle.cs_hub.specs.DueReads.{SentBefore}
use Rattle.cs_hub.proofs.AskedLemmas.{asks_counted, along_start as asked_start, along_next as asked_next, along_hold as asked_hold, along_rest as asked_rest, along_stop as asked_stop}
use Rattle.cs_hub.proofs.PieceTurns.{along_start, along_next, along_hold, along_stop, calm_none, calm_both, received, stays_none, stays_both, stopped}
use Rattle.cs_hub.proofs.line.Line.receive.Goals as goal

pub loop-used-init : goal.loop-used-init
loop-used-init g c =
    let b = c.self.inside.reading ++ c.first_of-counted.result.now in
    record {
      along = along_start (g.A.Answerer.answers c.args.answerer.now) c.args.conn b (g.A.Answerer.faults c.args.answerer.now) (g.H.Hub.talk c.args.hub.now);
      asked = asked_start g.A.Answerer.leaves c.args.conn b (g.A.Answerer.kept c.args.answerer.now) (g.H.Hub.talk c.args.hub.now);
      stays = stays_none c.args.answerer.now;
      calm = calm_none c.args.hub.now;
    }

pub loop-used-preserved : goal.loop-used-preserved
loop-used-preserved g c =
    let over = g.A.Answerer.answers c.args.answerer.now in
    let before = g.A.Answerer.faults c.args.answerer.now in
    let after = g.A.Answerer.faults c.turn.new.answerer in
    let talk = g.H.Hub.talk c.args.hub.now in
    let then = g.H.Hub.talk c.turn.new.hub in
    let b = c.self.inside.reading ++ c.first_of-counted.result.now in
    record {
      along = along_next over (g.A.Answerer.answers c.loop-used.answerer) c.args.conn c.in-Next.used b
          c.loop-used.reading c.loop-used.rest.now c.turn.new.self c.behind-rest.result.now before (g.A.Answerer.faults c.loop-used.answerer) after talk
          (g.H.Hub.talk c.loop-used.hub) then c.loop-used.invariant.stays.still c.behind-rest.ensures c.loop-used.invariant.along c.in-Next.ensures.turned;
      asked = asked_next g.A.Answerer.leaves c.args.conn b (drop c.in-Next.used c.loop-used.rest.now)
          (c.loop-used.reading ++ c.loop-used.rest.now) c.turn.new.self c.behind-rest.result.now (g.A.Answerer.kept c.args.answerer.now)
          (g.A.Answerer.kept c.loop-used.answerer) (g.A.Answerer.kept c.turn.new.answerer) talk (g.H.Hub.talk c.loop-used.hub) then
          c.in-Next.ensures.turned.emptied c.behind-rest.ensures c.loop-used.invariant.asked c.in-Next.ensures.asked;
      stays = stays_both c.loop-used.invariant.stays c.in-Next.ensures.stays;
      calm = calm_both c.loop-used.invariant.calm c.in-Next.ensures.calm;
    }

pub returns-in-Holds-clause-received : goal.returns-in-Holds-clause-received
returns-in-Holds-clause-received g c =
    let b = c.self.inside.reading ++ c.first_of-counted.result.now in
    received (g.A.Answerer.answers c.args.answerer.now) c.args.conn c.args.self c.self.inside.taken c.self.inside.reading c.args.piece.now
    c.first_of-counted.result.now c.turn.new.self c.kept_of.result (g.A.Answerer.faults c.args.answerer.now) (g.A.Answerer.faults c.turn.new.answerer)
    (g.H.Hub.talk c.args.hub.now) (g.H.Hub.talk c.turn.new.hub) c.self.view_is c.first_of-counted.ensures c.kept_of.ensures
    (along_hold (g.A.Answerer.answers c.args.answerer.now) c.args.conn b c.loop-used.reading c.loop-used.rest.now
    c.turn.new.self (g.A.Answerer.faults c.args.answerer.now) (g.A.Answerer.faults c.loop-used.answerer) (g.A.Answerer.faults c.turn.new.answerer)
    (g.H.Hub.talk c.args.hub.now) (g.H.Hub.talk c.loop-used.hub) (g.H.Hub.talk c.turn.new.hub) c.loop-used.invariant.along c.in-Holds.ensures.turned)
    (asked_rest g.A.Answerer.leaves c.args.conn b (c.loop-used.reading ++ c.loop-used.rest.now) c.turn.new.self
    (g.A.Answerer.kept c.args.answerer.now) (g.A.Answerer.kept c.loop-used.answerer) (g.A.Answerer.kept c.turn.new.answerer) (g.H.Hub.talk c.args.hub.now)
    (g.H.Hub.talk c.loop-used.hub) (g.H.Hub.talk c.turn.new.hub) c.loop-used.invariant.asked c.in-Holds.ensures.asked c.in-Holds.ensures.turned.kept)

pub returns-in-Stops-clause-received : goal.returns-in-Stops-clause-received
returns-in-Stops-clause-received g c =
    let b = c.self.inside.reading ++ c.first_of-counted.result.now in
    stopped (g.A.Answerer.answers c.args.answerer.now) c.args.conn c.args.self c.self.inside.taken c.self.inside.reading c.args.piece.now
    c.first_of-counted.result.now (g.A.Answerer.faults c.args.answerer.now) (g.A.Answerer.faults c.turn.new.answerer)
    (g.H.Hub.talk c.args.hub.now) (g.H.Hub.talk c.turn.new.hub) c.self.view_is c.first_of-counted.ensures
    (along_stop (g.A.Answerer.answers c.args.answerer.now) (g.A.Answerer.answers c.loop-used.answerer) c.args.conn b
    (c.loop-used.reading ++ c.loop-used.rest.now) (g.A.Answerer.faults c.args.answerer.now) (g.A.Answerer.faults c.loop-used.answerer)
    (g.A.Answerer.faults c.turn.new.answerer)
    (g.H.Hub.talk c.args.hub.now) (g.H.Hub.talk c.loop-used.hub) (g.H.Hub.talk c.turn.new.hub) c.loop-used.invariant.stays.still c.loop-used.invariant.along
    c.in-Stops.ensures.turned)

pub returns-in-Holds-clause-asked : goal.returns-in-Holds-clause-asked
returns-in-Holds-clause-asked g c =
    let talk = g.H.Hub.talk c.args.hub.now in
    let told = g.H.Hub.talk c.turn.new.hub in
    asks_counted g.A.Answerer.leaves (is_some c.kept_of.result) c.args.self c.self.inside.taken c.self.inside.reading c.args.piece.now
    c.first_of-counted.result.now (g.A.Answerer.kept c.args.answerer.now) (g.A.Answerer.kept c.turn.new.answerer)
    (λ b. SentBefore c.args.conn (is_some c.kept_of.result) b talk told) c.self.view_is c.first_of-counted.ensures
    (asked_hold g.A.Answerer.leaves c.args.conn (is_some c.kept_of.result) (c.self.inside.reading ++ c.first_of-counted.result.now)
    (c.loop-used.reading ++ c.loop-used.rest.now)
    (g.A.Answerer.kept c.args.answerer.now) (g.A.Answerer.kept c.loop-used.answerer) (g.A.Answerer.kept c.turn.new.answerer) talk
    (g.H.Hub.talk c.loop-used.hub) told c.loop-used.invariant.asked c.in-Holds.ensures.asked)

pub returns-in-Stops-clause-asked : goal.returns-in-Stops-clause-asked
returns-in-Stops-clause-asked g c =
    let talk = g.H.Hub.talk c.args.hub.now in
    let told = g.H.Hub.talk c.turn.new.hub in
    asks_counted g.A.Answerer.leaves false c.args.self c.self.inside.taken c.self.inside.reading c.args.piece.now
    c.first_of-counted.result.now (g.A.Answerer.kept c.args.answerer.now) (g.A.Answerer.kept c.turn.new.answerer)
    (λ b. SentBefore c.args.conn false b talk told) c.self.view_is c.first_of-counted.ensures
    (asked_stop g.A.Answerer.leaves c.args.conn (c.self.inside.reading ++ c.first_of-counted.result.now) (c.loop-used.reading ++ c.loop-used.rest.now)
    (g.A.Answerer.kept c.args.answerer.now) (g.A.Answerer.kept c.loop-used.answerer) (g.A.Answerer.kept c.turn.new.answerer) talk
    (g.H.Hub.talk c.loop-used.hub) told c.loop-used.invariant.asked c.in-Stops.ensures.asked)
