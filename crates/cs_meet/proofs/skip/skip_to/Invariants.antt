use Rattle.std.proofs.Common.{◌≤◌, ◌-◌, length}
use Rattle.cs_meet.specs.RowPlaces.{AllBefore}
use Rattle.cs_meet.proofs.skip.skip_to.Given as goal

abbrev pub invariant-loop-lo : goal.invariant-loop-lo
invariant-loop-lo l = record {
  onward : l.from ≤ l.lo;
  within : l.lo ≤ length l.posts.posts;
  some : 1 ≤ l.step;
  before : AllBefore l.posts.posts l.lo l.doc l.pos;
}

abbrev pub decreases-loop-lo : goal.decreases-loop-lo
decreases-loop-lo l = length l.posts.posts - l.lo
