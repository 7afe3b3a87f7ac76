use Rattle.std.proofs.Common.{subst, sym}
use Rattle.cs_model.specs.Parameters.{HoldsLimits}
use Rattle.cs_model.proofs.DefaultRequests.{default_holds}
use Rattle.cs_tests.proofs.engine.answer.Goals as goal

pub ask-requires-clause-limits : goal.ask-requires-clause-limits
ask-requires-clause-limits c = subst HoldsLimits (sym c.by_default-request.ensures) (default_holds c.in-Ok.query c.in-Ok.ensures.grammar)
