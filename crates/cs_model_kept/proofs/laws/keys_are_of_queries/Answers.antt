use Rattle.cs_model_kept.proofs.PlanLemmas.{shorter_are_of_grammar, first_parts_are_of_grammar}
use Rattle.cs_model_kept.proofs.laws.keys_are_of_queries.Goals as goal

pub returns : goal.returns
returns c = record { shorter = shorter_are_of_grammar; first_parts = first_parts_are_of_grammar }
