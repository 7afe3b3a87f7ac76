use Rattle.cs_model_live.proofs.CourseLemmas.{courses_are_changes}
use Rattle.cs_model_live.proofs.laws.courses.Goals as goal

pub returns : goal.returns
returns c = courses_are_changes
