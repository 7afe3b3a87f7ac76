use Rattle.cs_model_excerpts.proofs.ShortestRuns.{shortest_first}
use Rattle.cs_model_excerpts.proofs.laws.shortest_runs.Goals as goal

pub returns : goal.returns
returns c = shortest_first
