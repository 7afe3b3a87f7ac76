use Rattle.std.proofs.Common.{◌≡◌, ◌+◌, ◌*◌, ◌≤◌, length, drop}
use Rattle.cs_model_index.specs.Blocks.{gap_column}
use Rattle.cs_build.proofs.heads.bytes_of.Given as goal

abbrev pub invariant-loop-i : goal.invariant-loop-i
invariant-loop-i l = record {
  told : l.bytes + length (gap_column l.before (drop l.i l.block.posts)) ≡ length (gap_column 0 l.block.posts) + 7 * l.i;
  few : l.bytes ≤ 12 * l.i;
}
