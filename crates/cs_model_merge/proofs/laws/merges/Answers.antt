use Rattle.cs_model_merge.proofs.MergeLemmas.{merges_are_joined, merges_are_one}
use Rattle.cs_model_merge.proofs.laws.merges.Goals as goal

pub returns : goal.returns
returns c = record { one = merges_are_one; joined = merges_are_joined }
