use Rattle.std.proofs.Common.{◌≡◌}
use Rattle.cs_hub.specs.HubFollowing.{HasLive}
use Rattle.cs_hub.specs.Rounds.{OnlyCloses, weight}
use Rattle.cs_hub.proofs.slots.Core.close_all.Given as goal

abbrev pub invariant-loop-conn : goal.invariant-loop-conn
invariant-loop-conn g l = record {
  live : HasLive l.self (g.H.Hub.state l.hub);
  same : g.H.Hub.state l.hub ≡ record (g.H.Hub.state l.initial.hub) { live = (g.H.Hub.state l.hub).live };
  closes : OnlyCloses g.H.Hub.state g.H.Hub.talk g.H.Hub.faults g.H.Hub.send_faults l.initial.hub l.hub;
}

abbrev pub decreases-loop-conn : goal.decreases-loop-conn
decreases-loop-conn g l = weight l.self
