use Rattle.cs_model_kept.proofs.InnerLemmas.{inner_queries_are_of_grammar}
use Rattle.cs_model_kept.proofs.laws.inner_queries_are_of_grammar.Goals as goal

pub returns : goal.returns
returns c = inner_queries_are_of_grammar
