use Rattle.cs_model.proofs.RefusalLemmas.{accepted_is_none, refused_is_first}
use Rattle.cs_model.proofs.laws.first_refusals.Goals as goal

pub returns : goal.returns
returns c = record { accepted = accepted_is_none; refused = refused_is_first }
