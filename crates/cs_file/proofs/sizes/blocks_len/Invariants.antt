use Rattle.std.proofs.Common.{◌≡◌, take}
use Rattle.std.specs.List.{sum_by}
use Rattle.cs_file.proofs.sizes.blocks_len.Given as goal

abbrev pub invariant-loop-head : goal.invariant-loop-head
invariant-loop-head l = l.bytes ≡ sum_by (λ h. h.len) (take l.head-index l.heads)
