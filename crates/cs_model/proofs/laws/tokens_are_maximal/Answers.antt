use Rattle.cs_model.proofs.MaximalTokens.{all_bytes, maximal}
use Rattle.cs_model.proofs.laws.tokens_are_maximal.Goals as goal

pub returns : goal.returns
returns c = record { bytes = all_bytes; maximal = maximal }
