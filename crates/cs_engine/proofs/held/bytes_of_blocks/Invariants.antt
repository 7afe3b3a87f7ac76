use Rattle.std.proofs.Common.{◌≡◌, ◌*◌, ◌≤◌, take}
use Rattle.cs_engine.specs.HeldRanges.{bytes_of_blocks}
use Rattle.cs_engine.proofs.held.bytes_of_blocks.Given as goal

abbrev pub invariant-loop-block : goal.invariant-loop-block
invariant-loop-block l = record {
  bytes : l.bytes ≡ bytes_of_blocks (take l.block-index l.blocks);
  few : l.bytes ≤ 295147905179352825856 * l.block-index;
}
