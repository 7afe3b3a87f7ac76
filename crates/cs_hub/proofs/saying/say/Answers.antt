use Rattle.std.proofs.Common.{true, false, take}
use Rattle.cs_base.specs.outside.Hub.{sends, breaks}
use Rattle.cs_hub.proofs.SpeakLemmas.{breaks_failed, breaks_sent, did_send, did_cut, spoke_by}
use Rattle.cs_hub.proofs.saying.say.Goals as goal

pub returns-in-Ok-clause-said : goal.returns-in-Ok-clause-said
returns-in-Ok-clause-said g c =
    spoke_by c.args.conn c.args.text.now false (sends c.args.conn c.args.text.now) (g.H.Hub.talk c.args.hub.now) (g.H.Hub.talk c.send.new.self)
    (did_send c.args.conn c.args.text.now) c.in-Ok.ensures.ok

pub returns-in-Err-clause-said : goal.returns-in-Err-clause-said
returns-in-Err-clause-said g c =
    let cut = take c.in-Err.ensures.err.0 c.args.text.now in (
      c.in-Err.ensures.err.0,
      spoke_by c.args.conn cut true (λ t. breaks c.args.conn (sends c.args.conn cut t)) (g.H.Hub.talk c.args.hub.now) (g.H.Hub.talk c.send.new.self)
          (did_cut c.args.conn cut) c.in-Err.ensures.err.1,
    )

pub returns-in-Ok-clause-calm : goal.returns-in-Ok-clause-calm
returns-in-Ok-clause-calm g c = record {
  state = c.in-Ok.ensures.same;
  faults = c.in-Ok.ensures.count;
  breaks = breaks_sent c.args.conn (g.H.Hub.send_faults c.args.hub.now) (g.H.Hub.send_faults c.send.new.self) c.args.text.now (g.H.Hub.talk c.args.hub.now)
      (g.H.Hub.talk c.send.new.self) c.in-Ok.ensures.counted.quiet c.in-Ok.ensures.ok;
  orderly = λ o. c.in-Ok.ensures.orderly;
}

pub returns-in-Err-clause-calm : goal.returns-in-Err-clause-calm
returns-in-Err-clause-calm g c = record {
  state = c.in-Err.ensures.same;
  faults = c.in-Err.ensures.count;
  breaks = breaks_failed (g.H.Hub.send_faults c.args.hub.now) (g.H.Hub.send_faults c.send.new.self) (g.H.Hub.talk c.args.hub.now) (g.H.Hub.talk c.send.new.self)
      c.in-Err.ensures.counted.later c.in-Err.ensures.counted.failed;
  orderly = λ o. c.in-Err.ensures.orderly;
}
