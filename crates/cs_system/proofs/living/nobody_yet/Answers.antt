use Rattle.std.proofs.lemmas.Result.{IfOk-weaker}
use Rattle.cs_system.proofs.LivingLemmas.{none_below}
use Rattle.cs_system.proofs.living.nobody_yet.Goals as goal

pub returns-clause-below : goal.returns-clause-below
returns-clause-below c = IfOk-weaker c.with_capacity.result _ _ (λ v none. none_below v.items none) c.with_capacity.ensures.items
