use Rattle.cs_model_kept.proofs.HeldLemmas.{numbers_plan_alike, numbers_use_alike, numbers_front_alike, numbers_put_alike, numbers_keep_alike}
use Rattle.cs_model_kept.proofs.laws.entries_are_numbered.Goals as goal

pub returns : goal.returns
returns c = record { plans = numbers_plan_alike; used = numbers_use_alike; fronts = numbers_front_alike; puts = numbers_put_alike; kept = numbers_keep_alike }
