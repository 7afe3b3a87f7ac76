use Rattle.std.proofs.Common.{◌≡◌}
use Rattle.cs_system.proofs.event_loop.EventLoop.turn.Given as goal

abbrev pub invariant-loop : goal.invariant-loop
invariant-loop g l = l.comes ≡ l.fn.comes
