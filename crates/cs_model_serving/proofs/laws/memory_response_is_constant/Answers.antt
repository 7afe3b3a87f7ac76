use Rattle.cs_model_serving.proofs.CountLemmas.{memory_is_constant}
use Rattle.cs_model_serving.proofs.laws.memory_response_is_constant.Goals as goal

pub returns : goal.returns
returns c = memory_is_constant
