use Rattle.std.proofs.Common.{◌++◌, ◌+◌, ◌-◌, ◌*◌, ◌≤◌, drop, length}
use Rattle.std.specs.Vec.{vec_len, vec_capacity}
use Rattle.cs_model_index.specs.Blocks.{gap_column}
use Rattle.cs_block.specs.BlockSpelling.{IsAscending}
use Rattle.cs_block.proofs.PutLemmas.{IsPutting}
use Rattle.cs_block.proofs.encoding.with_gaps.Given as goal

abbrev pub invariant-loop-i : goal.invariant-loop-i
invariant-loop-i l = record {
  put : IsPutting (l.fn.out.items ++ gap_column 0 l.rows.posts) l.fn.out.items l.out.items (gap_column l.before (drop l.i l.rows.posts));
  up : IsAscending l.before (drop l.i l.rows.posts);
  room : vec_len l.out + 5 * (length l.rows.posts - l.i) ≤ vec_capacity l.out;
  within : l.i ≤ length l.docs;
}

abbrev pub decreases-loop-i : goal.decreases-loop-i
decreases-loop-i l = length l.docs - l.i
