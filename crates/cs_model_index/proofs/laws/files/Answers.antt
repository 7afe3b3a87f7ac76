use Rattle.cs_model_index.proofs.AcceptedLemmas.{files_follow_blocks}
use Rattle.cs_model_index.proofs.laws.files.Goals as goal

pub returns : goal.returns
returns c = files_follow_blocks
