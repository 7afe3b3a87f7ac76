use Rattle.cs_model.proofs.PartsLemmas.{have_chains}
use Rattle.cs_model.proofs.laws.parts_have_chains.Goals as goal

pub returns : goal.returns
returns c = have_chains
