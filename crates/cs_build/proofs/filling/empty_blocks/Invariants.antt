use Rattle.std.proofs.Common.{take, []}
use Rattle.cs_build.specs.WordRuns.{AreFilled}
use Rattle.cs_build.proofs.filling.empty_blocks.Given as goal

abbrev pub invariant-loop-run : goal.invariant-loop-run
invariant-loop-run l = AreFilled [] (take l.run-index l.runs) l.blocks.items
