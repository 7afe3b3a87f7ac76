use Rattle.cs_model_serving.proofs.ServeLemmas.{answers-prefix}
use Rattle.cs_model_serving.proofs.laws.prefixes_are_answered.Goals as goal

pub returns : goal.returns
returns c = λ k x y. let start = answers-prefix k x y in (start.later, start.is)
