use Rattle.cs_model.proofs.FittingLemmas.{fitting-fits, fitting-prefix, fitting-longest}
use Rattle.cs_model.proofs.laws.whole_characters.Goals as goal

pub returns : goal.returns
returns c = record { fits = fitting-fits; prefix = fitting-prefix; longest = fitting-longest }
