use Rattle.cs_model_serving.proofs.CountLemmas.{read_counts, changed_counts, answer_counts}
use Rattle.cs_model_serving.proofs.laws.faults_are_counted.Goals as goal

pub returns : goal.returns
returns c = record { read = read_counts; changed = changed_counts; none = answer_counts }
