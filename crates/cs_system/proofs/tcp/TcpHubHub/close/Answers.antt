use Rattle.cs_system.proofs.tcp.TcpHubHub.close.Goals as goal

pub invariant_of-self : goal.invariant_of-self
invariant_of-self g c = record { numbered = c.forget.ensures.below _ c.args.self.now.numbered }
