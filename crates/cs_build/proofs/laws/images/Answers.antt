use Rattle.cs_build.proofs.MadeLemmas.{made_limits}
use Rattle.cs_build.proofs.laws.images.Goals as goal

pub returns : goal.returns
returns c = made_limits
