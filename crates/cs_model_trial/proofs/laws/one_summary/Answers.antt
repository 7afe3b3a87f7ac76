use Rattle.cs_model_trial.proofs.SummaryLemmas.{plans_are_counted, summaries_are_one}
use Rattle.cs_model_trial.proofs.TrialExamples.{texts-count}
use Rattle.cs_model_trial.proofs.laws.one_summary.Goals as goal

pub returns : goal.returns
returns c = record { texts = texts-count; counted = plans_are_counted; one = summaries_are_one }
