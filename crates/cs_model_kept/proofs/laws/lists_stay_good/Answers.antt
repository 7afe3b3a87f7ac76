use Rattle.cs_model_kept.proofs.KeptListLemmas.{held_are_own, fronts_stay_good, lists_stay_good}
use Rattle.cs_model_kept.proofs.laws.lists_stay_good.Goals as goal

pub returns : goal.returns
returns c = record { own = held_are_own; fronts = fronts_stay_good; after = lists_stay_good }
