use Rattle.std.proofs.Common.{◌<◌, length}
use Rattle.cs_model_index.specs.Partitions.{Count}
use Rattle.cs_build.specs.WordRuns.{AreCountsBy}
use Rattle.cs_build.proofs.PartitionCuts.{IsCutting}
use Rattle.cs_build.proofs.parting.parted.Given as goal

abbrev pub invariant-loop-n : goal.invariant-loop-n
invariant-loop-n l = record {
  inside : l.run.lo < length l.words;
  cutting : (count : Count) → AreCountsBy l.words l.counts count → IsCutting l.target count l.words l.n l.runs.items l.run;
}
