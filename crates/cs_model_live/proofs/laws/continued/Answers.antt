use Rattle.cs_model_live.proofs.CourseLemmas.{courses_go_on}
use Rattle.cs_model_live.proofs.laws.continued.Goals as goal

pub returns : goal.returns
returns c = courses_go_on
