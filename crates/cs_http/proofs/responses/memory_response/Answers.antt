use Rattle.std.proofs.Common.{refl}
use Rattle.cs_model_serving.specs.Responses.{memory_bytes}
use Rattle.cs_http.proofs.responses.memory_response.Goals as goal

pub returns : goal.returns
unfolding memory_bytes
returns c = refl
