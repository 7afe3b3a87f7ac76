use Rattle.std.proofs.Common.{◌∙◌, ap}
use Rattle.cs_system.specs.Living.{live_of}
use Rattle.cs_system.proofs.LivingLemmas.{welcomed, next_below}
use Rattle.cs_system.proofs.living.welcome.Goals as goal

pub returns-clause-live : goal.returns-clause-live
returns-clause-live c = ap live_of c.push_reserved.ensures.items ∙ welcomed _ _

pub returns-clause-below : goal.returns-clause-below
returns-clause-below c = next_below _ _ _ (ap live_of c.push_reserved.ensures.items ∙ welcomed _ _)
