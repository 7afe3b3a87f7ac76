use Rattle.std.proofs.Common.{◌≡◌, ◌+◌, ◌≤◌, ◌++◌, drop, length}
use Rattle.std.specs.Vec.{vec_capacity, vec_len}
use Rattle.cs_live.specs.Settling.{row_posts}
use Rattle.cs_live.proofs.rows_by_word.add_posts.Given as goal

abbrev pub invariant-loop-i : goal.invariant-loop-i
invariant-loop-i l = record {
  told : l.initial.posts.items ++ row_posts l.second l.numbers l.rows ≡ l.posts.items ++ row_posts l.second (drop l.i l.numbers) (drop l.i l.rows);
  room : vec_len l.posts + length l.rows ≤ vec_capacity l.posts + l.i;
}
