use Rattle.cs_model.proofs.SpaceLemmas.{separate}
use Rattle.cs_model.proofs.laws.spaces_separate.Goals as goal

pub returns : goal.returns
returns c = separate
