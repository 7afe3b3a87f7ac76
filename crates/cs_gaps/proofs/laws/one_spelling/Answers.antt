use Rattle.cs_gaps.proofs.CodesLemmas.{one_spelling}
use Rattle.cs_gaps.proofs.laws.one_spelling.Goals as goal

pub returns : goal.returns
returns c = one_spelling
