use Rattle.cs_build.proofs.RowLemmas.{keep_limits}
use Rattle.cs_build.proofs.laws.collections.Goals as goal

pub returns : goal.returns
returns c = keep_limits
