use Rattle.std.proofs.Common.{◌≡◌, ◌+◌, ◌-◌, ◌^◌, ◌≤◌, drop, length, min}
use Rattle.cs_model_index.specs.Layout.{title_bytes}
use Rattle.cs_merge.proofs.merging.bytes_in.Given as goal

abbrev pub invariant-loop-title : goal.invariant-loop-title
invariant-loop-title l = record {
  sum : min (l.bytes + length (title_bytes (drop l.title-index l.titles))) (2 ^ 64 - 1) ≡ min (length (title_bytes l.titles)) (2 ^ 64 - 1);
  fits : l.bytes ≤ 2 ^ 64 - 1;
}
