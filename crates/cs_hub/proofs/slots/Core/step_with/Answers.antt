use Rattle.std.proofs.Common.{ap, sym, subst}
use Rattle.cs_base.specs.declared.outside.hub.Event.{Event}
use Rattle.cs_base.specs.declared.outside.hub.Event.TheVariants.{Opened, Piece, Ended, Over}
use Rattle.cs_hub.specs.Asked.{AsksAsSent}
use Rattle.cs_hub.specs.DueReads.{SentAt, bytes_to_answer, goes_on, requests_on}
use Rattle.cs_hub.proofs.AskedLemmas.{is_piece, unasked}
use Rattle.cs_hub.proofs.EventLemmas.{at_event, opened_stays, piece_stays, ended_stays, over_stays}
use Rattle.std.proofs.Common.{refl}
use Rattle.cs_hub.proofs.ActLemmas.{acts_as, ended_acts, piece_takes}
use Rattle.cs_hub.proofs.slots.Core.step_with.Goals as goal

pub returns-in-Opened-clause-acts : goal.returns-in-Opened-clause-acts
returns-in-Opened-clause-acts g c = acts_as c.args.event (Opened c.in-Opened.conn) _ _ _ _ _ _ _ c.in-Opened.is c.open.ensures.greets

pub returns-in-Piece-clause-acts : goal.returns-in-Piece-clause-acts
returns-in-Piece-clause-acts g c =
    acts_as c.args.event (Piece c.in-Piece.conn c.in-Piece.field-1) _ _ _ (g.H.Hub.state c.args.hub.now) (g.H.Hub.state c.hear.new.hub)
    (g.H.Hub.talk c.args.hub.now) (g.H.Hub.talk c.hear.new.hub) c.in-Piece.is
    (piece_takes (g.A.Answerer.answers c.args.answerer.now) c.args.self.now c.hear.new.self c.in-Piece.conn c.args.piece.now _ _ _ _ _ _
    c.hear.ensures.heeds)

pub returns-in-Ended-clause-acts : goal.returns-in-Ended-clause-acts
returns-in-Ended-clause-acts g c =
    let s = g.H.Hub.state c.args.hub.now in
    acts_as c.args.event (Ended c.in-Ended.conn) c.args.self.now c.remove.new.self c.args.piece.now s s _ _ c.in-Ended.is
    (ended_acts c.args.self.now c.remove.new.self c.in-Ended.conn c.remove.ensures, refl)

pub returns-in-Over-clause-acts : goal.returns-in-Over-clause-acts
returns-in-Over-clause-acts g c =
    acts_as c.args.event Over c.args.self.now c.close_all.new.self c.args.piece.now (g.H.Hub.state c.args.hub.now) (g.H.Hub.state c.close_all.new.hub)
    _ _ c.in-Over.is c.close_all.ensures.closes.talk

pub returns-in-Opened-clause-follows : goal.returns-in-Opened-clause-follows
returns-in-Opened-clause-follows g c = λ k over.
    at_event k _ _ _ (Opened c.in-Opened.conn) _ _ _ _ _ _ _ c.in-Opened.is c.requires.live c.requires.whole
    (λ but whole. opened_stays k _ _ _ _ _ _ _ _ _ but c.open.ensures.greets c.open.ensures.orderly)

pub returns-in-Piece-clause-follows : goal.returns-in-Piece-clause-follows
returns-in-Piece-clause-follows g c = λ k over.
    at_event k _ _ _ (Piece c.in-Piece.conn c.in-Piece.field-1) _ _ _ _ _ _ _ c.in-Piece.is c.requires.live c.requires.whole
    (λ but whole. piece_stays (g.A.Answerer.answers c.args.answerer.now) k over _ _ _ _ _ _ _ _ _ _ _ but whole c.hear.ensures.heeds c.hear.ensures.orderly)

pub returns-in-Ended-clause-follows : goal.returns-in-Ended-clause-follows
returns-in-Ended-clause-follows g c = λ k over.
    at_event k _ _ _ (Ended c.in-Ended.conn) _ _ _ _ _ _ _ c.in-Ended.is c.requires.live c.requires.whole
    (λ but whole. ended_stays k _ _ _ _ _ _ _ but c.remove.ensures)

pub returns-in-Over-clause-follows : goal.returns-in-Over-clause-follows
returns-in-Over-clause-follows g c = λ k over.
    at_event k _ _ _ Over _ _ _ _ _ _ _ c.in-Over.is c.requires.live c.requires.whole
    (λ but whole. over_stays k _ _ _ _ _ _ _ _ c.close_all.ensures.closes.talk c.close_all.ensures.same c.close_all.ensures.none c.close_all.ensures.live
    c.close_all.ensures.closes.orderly)

pub returns-in-Opened-clause-asked : goal.returns-in-Opened-clause-asked
returns-in-Opened-clause-asked g c = unasked g.A.Answerer.leaves _ _ c.args.event _ _ _ _ (ap is_piece c.in-Opened.is)

pub returns-in-Ended-clause-asked : goal.returns-in-Ended-clause-asked
returns-in-Ended-clause-asked g c = unasked g.A.Answerer.leaves _ _ c.args.event _ _ _ _ (ap is_piece c.in-Ended.is)

pub returns-in-Over-clause-asked : goal.returns-in-Over-clause-asked
returns-in-Over-clause-asked g c = unasked g.A.Answerer.leaves _ _ c.args.event _ _ _ _ (ap is_piece c.in-Over.is)

pub returns-in-Piece-clause-asked : goal.returns-in-Piece-clause-asked
returns-in-Piece-clause-asked g c =
    let now = g.A.Answerer.kept c.args.answerer.now in
    let then = g.A.Answerer.kept c.hear.new.answerer in
    subst (λ (v : Event). AsksAsSent g.A.Answerer.leaves (goes_on c.hear.new.self v) (requests_on (bytes_to_answer c.args.self.now v c.args.piece.now)) now then
    (SentAt v (goes_on c.hear.new.self v) (bytes_to_answer c.args.self.now v c.args.piece.now) (g.H.Hub.talk c.args.hub.now) (g.H.Hub.talk c.hear.new.hub))) (sym c.in-Piece.is)
    c.hear.ensures.asked
