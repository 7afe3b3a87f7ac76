use Rattle.cs_join.proofs.JoinLemmas.{joins_are_shared}
use Rattle.cs_join.proofs.laws.joins_are_shared.Goals as goal

pub returns : goal.returns
returns c = joins_are_shared
