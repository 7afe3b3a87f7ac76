use Rattle.cs_model.proofs.PartsLemmas.{few_parts}
use Rattle.cs_model.proofs.laws.queries_have_few_parts.Goals as goal

pub returns : goal.returns
returns c = few_parts
