use Rattle.cs_model_kept.proofs.PlanLemmas.{plans_serve}
use Rattle.cs_model_kept.proofs.laws.plans_serve.Goals as goal

pub returns : goal.returns
returns c = plans_serve
