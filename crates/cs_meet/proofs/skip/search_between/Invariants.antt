use Rattle.std.proofs.Common.{◌≤◌, ◌-◌, length}
use Rattle.cs_meet.specs.RowPlaces.{AllBefore, IsNotBefore}
use Rattle.cs_meet.proofs.skip.search_between.Given as goal

abbrev pub invariant-loop-lo : goal.invariant-loop-lo
invariant-loop-lo l = record {
  onward : l.from ≤ l.lo;
  order : l.lo ≤ l.hi;
  within : l.hi ≤ length l.posts.posts;
  before : AllBefore l.posts.posts l.lo l.doc l.pos;
  stop : IsNotBefore l.posts.posts l.hi l.doc l.pos;
}

abbrev pub decreases-loop-lo : goal.decreases-loop-lo
decreases-loop-lo l = l.hi - l.lo
