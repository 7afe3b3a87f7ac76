use Rattle.std.proofs.Common.{◌≡◌, ◌≤◌, take}
use Rattle.cs_engine.specs.HeldRanges.{range_bytes}
use Rattle.cs_engine.specs.declared.held.TheConstants.{MAX_HELD_BYTES}
use Rattle.cs_engine.proofs.held.many_within.Given as goal

abbrev pub invariant-loop-i : goal.invariant-loop-i
invariant-loop-i l = record {
  bytes : l.bytes ≡ range_bytes (take l.i l.ranges);
  few : l.bytes ≤ MAX_HELD_BYTES;
}
