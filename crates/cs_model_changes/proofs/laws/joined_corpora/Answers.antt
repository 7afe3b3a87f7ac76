use Rattle.cs_model_changes.proofs.JoinedLemmas.{joined_are_corpora}
use Rattle.cs_model_changes.proofs.laws.joined_corpora.Goals as goal

pub returns : goal.returns
returns c = joined_are_corpora
