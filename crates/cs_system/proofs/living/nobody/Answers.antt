use Rattle.cs_system.proofs.LivingLemmas.{none_below}
use Rattle.cs_system.proofs.living.nobody.Goals as goal

pub returns-clause-below : goal.returns-clause-below
returns-clause-below c = none_below _ c.new.ensures.items
