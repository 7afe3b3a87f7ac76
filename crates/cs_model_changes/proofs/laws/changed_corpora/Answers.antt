use Rattle.cs_model_changes.proofs.ChangesLemmas.{additions_join, deleted_are_gone}
use Rattle.cs_model_changes.proofs.laws.changed_corpora.Goals as goal

pub returns : goal.returns
returns c = record { additions = additions_join; deleted = deleted_are_gone }
