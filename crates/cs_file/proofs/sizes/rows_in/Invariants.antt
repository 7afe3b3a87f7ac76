use Rattle.std.proofs.Common.{◌≡◌, take, length}
use Rattle.std.specs.List.{sum_by}
use Rattle.cs_file.proofs.sizes.rows_in.Given as goal

abbrev pub invariant-loop-block : goal.invariant-loop-block
invariant-loop-block l = l.rows ≡ sum_by (λ b. length b.posts) (take l.block-index l.blocks)
