use Rattle.std.proofs.Common.{arith, ◌≡◌, ◌++◌, ◌-◌, length, slice_range, take, ap, subst}
use Rattle.std.proofs.lemmas.Grind.{common_steps}
use Rattle.cs_model_serving.specs.Heads.{judge}
use Rattle.cs_hub.specs.Asked.{AsksAsSent}
use Rattle.cs_hub.specs.DueReads.{requests_in}
use Rattle.cs_hub.proofs.UnreadBytes.{open_none, span_of, span_front}
use Rattle.cs_hub.proofs.TurnLemmas.{found_more, found_long, replied_by, starves, turned_head, turned_long, turned_held}
use Rattle.cs_hub.proofs.AskedLemmas.{SentFor, asks_sent, sent_open, starved_stops, turned_head as asked_head, turned_long as asked_long, turned_held as asked_held}
use Rattle.cs_hub.proofs.reading.Unread.turn.Goals as goal

pub slice_bounds-answer_head-count : goal.slice_bounds-answer_head-count
slice_bounds-answer_head-count g c =
    let held : c.len-held.result ≡ length c.args.self.now = omega (arith, c.len-held.ensures, c.self.inside.unread.ok, ap length c.self.view_is) in
    let span = span_of c.args.self.now c.args.rest.now c.len-held.result c.in-Head.skip c.in-Head.end c.in-Head.ensures.found c.in-Head.ensures.placed held in
    let used = c.in-Head.end - c.len-held.result in
    let all : c.as_slice.result.now ≡ c.args.self.now ++ take used c.args.rest.now = grind (arith, common_steps) in
    let front = span_front c.args.self.now c.args.rest.now c.in-Head.skip c.in-Head.end used span in
    omega (arith, front, ap length all)

pub slice_bounds-answer_head-start : goal.slice_bounds-answer_head-start
slice_bounds-answer_head-start g c =
    let held : c.len-held.result ≡ length c.args.self.now = omega (arith, c.len-held.ensures, c.self.inside.unread.ok, ap length c.self.view_is) in
    let span = span_of c.args.self.now c.args.rest.now c.len-held.result c.in-Head.skip c.in-Head.end c.in-Head.ensures.found c.in-Head.ensures.placed held in
    let used = c.in-Head.end - c.len-held.result in
    let all : c.as_slice.result.now ≡ c.args.self.now ++ take used c.args.rest.now = grind (arith, common_steps) in
    let front = span_front c.args.self.now c.args.rest.now c.in-Head.skip c.in-Head.end used span in
    omega (arith, front, ap length all)

pub invariant_of-self-in-Head : goal.invariant_of-self-in-Head
invariant_of-self-in-Head g c =
    open_none c.clear.new.self.items c.nothing-self-inside.result c.clear.ensures.items c.nothing-self-inside.ensures.seen c.nothing-self-inside.ensures.few

pub returns-else-is_err-clause-turned : goal.returns-else-is_err-clause-turned
returns-else-is_err-clause-turned g c =
    let held : c.len-held.result ≡ length c.args.self.now = omega (arith, c.len-held.ensures, c.self.inside.unread.ok, ap length c.self.view_is) in
    let span = span_of c.args.self.now c.args.rest.now c.len-held.result c.in-Head.skip c.in-Head.end c.in-Head.ensures.found c.in-Head.ensures.placed held in
    let used = c.in-Head.end - c.len-held.result in
    let all : c.as_slice.result.now ≡ c.args.self.now ++ take used c.args.rest.now = grind (arith, common_steps) in
    let over = g.A.Answerer.answers c.args.answerer.now in
    let before = g.A.Answerer.faults c.args.answerer.now in
    let after = g.A.Answerer.faults c.answer_head-answer.new.answerer in
    let talk = g.H.Hub.talk c.args.hub.now in
    let told = g.H.Hub.talk c.deliver-goes.new.hub in
    let full = c.args.self.now ++ take used c.args.rest.now in
    turned_head over c.args.conn c.args.self.now c.args.rest.now _ c.in-Head.skip c.in-Head.end used c.deliver-goes.result c.turn_behind.result before after
    talk told c.turn_behind.ensures span c.answer_head-answer.ensures.stays.later (λ e. c.clear.ensures.items)
    (replied_by over c.args.conn _ (slice_range full c.in-Head.skip (length full)) c.answer_head-answer.result c.deliver-goes.result before after talk told
    (ap (λ l. slice_range l c.in-Head.skip (length l)) all) c.answer_head-answer.ensures.ok c.deliver-goes.ensures.sent)

pub returns-else-is_err-clause-asked : goal.returns-else-is_err-clause-asked
returns-else-is_err-clause-asked g c =
    let held : c.len-held.result ≡ length c.args.self.now = omega (arith, c.len-held.ensures, c.self.inside.unread.ok, ap length c.self.view_is) in
    let span = span_of c.args.self.now c.args.rest.now c.len-held.result c.in-Head.skip c.in-Head.end c.in-Head.ensures.found c.in-Head.ensures.placed held in
    let used = c.in-Head.end - c.len-held.result in
    let all : c.as_slice.result.now ≡ c.args.self.now ++ take used c.args.rest.now = grind (arith, common_steps) in
    let s = g.A.Answerer.kept c.args.answerer.now in
    let t = g.A.Answerer.kept c.answer_head-answer.new.answerer in
    let talk = g.H.Hub.talk c.args.hub.now in
    let told = g.H.Hub.talk c.deliver-goes.new.hub in
    let full = c.args.self.now ++ take used c.args.rest.now in
    let same = ap (λ l. slice_range l c.in-Head.skip (length l)) all in
    asked_head g.A.Answerer.leaves c.args.conn c.args.self.now c.args.rest.now c.in-Head.skip c.in-Head.end used c.deliver-goes.result
    c.turn_behind.result s t talk told c.turn_behind.ensures span
    (sent_open c.args.conn _ (slice_range full c.in-Head.skip (length full)) c.answer_head-answer.result c.deliver-goes.result talk told same
    c.answer_head-answer.ensures.close c.deliver-goes.ensures.sent)
    (subst (λ h. AsksAsSent g.A.Answerer.leaves c.deliver-goes.result (requests_in (judge h)) s t (SentFor c.args.conn c.deliver-goes.result h talk told)) same
    (asks_sent g.A.Answerer.leaves c.args.conn c.answer_head-answer.result c.deliver-goes.result _ s t talk told c.answer_head-answer.ensures.close
    c.deliver-goes.ensures.sent c.answer_head-answer.ensures.asked))

pub returns-then-is_err-clause-turned : goal.returns-then-is_err-clause-turned
returns-then-is_err-clause-turned g c =
    starves (g.A.Answerer.answers c.args.answerer.now) c.args.conn (c.args.self.now ++ c.args.rest.now) (g.A.Answerer.faults c.args.answerer.now)
    (g.A.Answerer.faults c.args.answerer.now) (g.H.Hub.talk c.args.hub.now) (g.H.Hub.talk c.starve.new.hub) (omega arith) c.starve.ensures.starved

pub returns-then-is_err-clause-asked : goal.returns-then-is_err-clause-asked
returns-then-is_err-clause-asked g c =
    starved_stops g.A.Answerer.leaves c.args.conn (c.args.self.now ++ c.args.rest.now) (g.A.Answerer.kept c.args.answerer.now) (g.H.Hub.talk c.args.hub.now)
    (g.H.Hub.talk c.starve.new.hub) c.starve.ensures.starved

pub returns-in-TooLong-clause-turned : goal.returns-in-TooLong-clause-turned
returns-in-TooLong-clause-turned g c =
    turned_long (g.A.Answerer.answers c.args.answerer.now) c.args.conn (c.args.self.now ++ c.args.rest.now) (g.A.Answerer.faults c.args.answerer.now)
    (g.H.Hub.talk c.args.hub.now) (g.H.Hub.talk c.refuse.new.hub)
    (found_long (c.args.self.now ++ c.args.rest.now) c.in-TooLong.ensures.found) c.refuse.ensures.refused

pub returns-in-More-clause-turned : goal.returns-in-More-clause-turned
returns-in-More-clause-turned g c =
    turned_held (g.A.Answerer.answers c.args.answerer.now) c.args.conn c.args.self.now c.args.rest.now c.keep.new.self c.keep.result
    (g.A.Answerer.faults c.args.answerer.now) (g.H.Hub.talk c.args.hub.now) (g.H.Hub.talk c.keep.new.hub)
    (found_more (c.args.self.now ++ c.args.rest.now) c.in-More.seen c.in-More.ensures.found) c.keep.ensures.held

pub returns-in-TooLong-clause-asked : goal.returns-in-TooLong-clause-asked
returns-in-TooLong-clause-asked g c =
    asked_long g.A.Answerer.leaves c.args.conn (c.args.self.now ++ c.args.rest.now) (g.A.Answerer.kept c.args.answerer.now) (g.H.Hub.talk c.args.hub.now)
    (g.H.Hub.talk c.refuse.new.hub) (found_long (c.args.self.now ++ c.args.rest.now) c.in-TooLong.ensures.found) c.refuse.ensures.refused

pub returns-in-More-clause-asked : goal.returns-in-More-clause-asked
returns-in-More-clause-asked g c =
    asked_held g.A.Answerer.leaves c.args.conn c.args.self.now c.args.rest.now c.keep.new.self c.keep.result (g.A.Answerer.kept c.args.answerer.now)
    (g.H.Hub.talk c.args.hub.now) (g.H.Hub.talk c.keep.new.hub)
    (found_more (c.args.self.now ++ c.args.rest.now) c.in-More.seen c.in-More.ensures.found) c.keep.ensures.held
