use Rattle.cs_model_kept.proofs.HeldLemmas.{fronts_plan_alike, fronts_use_alike, others_are_new}
use Rattle.cs_model_kept.proofs.PlanLemmas.{plans_are_held}
use Rattle.cs_model_kept.proofs.laws.plans_use_entries.Goals as goal

pub returns : goal.returns
returns c = record { held = plans_are_held; fronts = fronts_plan_alike; used = fronts_use_alike; others = others_are_new }
