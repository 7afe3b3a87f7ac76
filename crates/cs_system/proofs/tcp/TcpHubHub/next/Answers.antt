use Rattle.std.proofs.Common.{sym, subst}
use Rattle.cs_system.specs.Living.{AreBelow}
use Rattle.cs_system.proofs.tcp.TcpHubHub.next.Goals as goal

pub invariant_of-self-in-Ended : goal.invariant_of-self-in-Ended
invariant_of-self-in-Ended g c = record { numbered = c.forget.ensures.below _ (subst (AreBelow c.args.self.now.opened) (sym c.coming-comes.ensures.same) c.args.self.now.numbered) }
