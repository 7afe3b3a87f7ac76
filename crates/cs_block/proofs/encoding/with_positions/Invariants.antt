use Rattle.std.proofs.Common.{◌++◌, ◌+◌, ◌-◌, ◌*◌, ◌≤◌, drop, length}
use Rattle.std.specs.Vec.{vec_len, vec_capacity}
use Rattle.cs_model_index.specs.Blocks.{position_column}
use Rattle.cs_block.proofs.PutLemmas.{IsPutting}
use Rattle.cs_block.proofs.encoding.with_positions.Given as goal

abbrev pub invariant-loop-place : goal.invariant-loop-place
invariant-loop-place l = record {
  put : IsPutting (l.fn.out.items ++ position_column l.rows.posts) l.fn.out.items l.out.items (position_column (drop l.place-index l.rows.posts));
  room : vec_len l.out + 4 * (length l.rows.posts - l.place-index) ≤ vec_capacity l.out;
}
