use Rattle.std.proofs.Common.{◌≡◌, ◌≤◌, ◌*◌, ◌^◌, take}
use Rattle.std.specs.List.{sum_by}
use Rattle.cs_file.proofs.directory.sums_of.Given as goal

abbrev pub invariant-loop-head : goal.invariant-loop-head
invariant-loop-head l = record {
  rows : l.rows ≡ sum_by (λ h. h.rows) (take l.head-index l.heads);
  few_rows : l.rows ≤ l.head-index * 2 ^ 32;
  bytes : l.bytes ≡ sum_by (λ h. h.len) (take l.head-index l.heads);
  few_bytes : l.bytes ≤ l.head-index * 2 ^ 32;
}
