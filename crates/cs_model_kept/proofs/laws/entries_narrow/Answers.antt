use Rattle.cs_model_kept.proofs.NarrowLemmas.{entries_narrow}
use Rattle.cs_model_kept.proofs.laws.entries_narrow.Goals as goal

pub returns : goal.returns
returns c = entries_narrow
