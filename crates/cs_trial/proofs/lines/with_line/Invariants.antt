use Rattle.std.proofs.Common.{◌≡◌, ◌+◌, ◌++◌, take}
use Rattle.std.specs.Vec.{vec_len, vec_capacity}
use Rattle.cs_trial.proofs.lines.with_line.Given as goal

abbrev pub invariant-loop-byte : goal.invariant-loop-byte
invariant-loop-byte l = record {
  bytes : l.line.items ≡ l.initial.line.items ++ take l.byte-index l.byte-items;
  len : vec_len l.line ≡ vec_len l.initial.line + l.byte-index;
  capacity : vec_capacity l.line ≡ vec_capacity l.initial.line;
}
