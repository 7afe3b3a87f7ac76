use Rattle.std.proofs.Common.{◌≡◌, ◌-◌, ◌≤◌, ◌+◌, ◌++◌, drop, length}
use Rattle.std.specs.Prelude.{filter}
use Rattle.cs_rows.specs.Stocked.{is_between}
use Rattle.cs_rows.proofs.between.posts_between.Given as goal

abbrev pub invariant-loop-from : goal.invariant-loop-from
invariant-loop-from l = record {
  told : filter (is_between l.lo l.hi) l.posts.posts ≡ l.found.posts ++ filter (is_between l.lo l.hi) (drop l.from l.posts.posts);
  room : length (filter (is_between l.lo l.hi) l.posts.posts) ≤ length l.found.posts + l.found.room;
  within : l.from ≤ length l.words;
}

abbrev pub decreases-loop-from : goal.decreases-loop-from
decreases-loop-from l = length l.words - l.from
