use Rattle.cs_model_sources.proofs.SourceWeights.{weights_usual}
use Rattle.cs_model_sources.proofs.laws.translated_weights.Goals as goal

pub returns : goal.returns
returns c = weights_usual
