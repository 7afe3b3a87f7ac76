use Rattle.std.proofs.Common.{◌∙◌}
use Rattle.cs_hub.proofs.ActLemmas.{shut_live, shut_same}
use Rattle.cs_hub.proofs.slots.Core.close_all.Goals as goal

pub loop-conn-preserved : goal.loop-conn-preserved
loop-conn-preserved g c =
    let state = g.H.Hub.state in
    let shut = c.in-Some.ensures.some in
    record {
      live = shut_live c.loop-conn.self c.pop.new.self c.in-Some.conn (state c.loop-conn.hub) (state c.close.new.self) c.loop-conn.invariant.live shut.0
          shut.1 c.close.ensures.closed;
      same = shut_same (state c.args.hub.now) (state c.loop-conn.hub) (state c.close.new.self) _ c.loop-conn.invariant.same c.close.ensures.closed;
      closes = record {
        talk = c.close.ensures.same ∙ c.loop-conn.invariant.closes.talk;
        faults = c.close.ensures.count ∙ c.loop-conn.invariant.closes.faults;
        sends = c.close.ensures.send_count ∙ c.loop-conn.invariant.closes.sends;
        orderly = λ before. c.close.ensures.orderly;
      };
    }
