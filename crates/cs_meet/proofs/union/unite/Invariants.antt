use Rattle.std.proofs.Common.{◌≡◌, ◌%◌, ◌≤◌, length}
use Rattle.std.specs.Prelude.{slice_index}
use Rattle.cs_meet.specs.declared.fronts.TheConstants.{ROOM}
use Rattle.cs_meet.proofs.Merged.{IsMerged, left, posts_in}
use Rattle.cs_meet.proofs.union.unite.Given as goal

abbrev pub invariant-loop-number : goal.invariant-loop-number
invariant-loop-number l = record {
  merged : IsMerged (length l.lists) (posts_in l.lists) l.heads.items l.tree.items l.found.posts l.next;
  number : l.number ≡ slice_index l.tree.items 1 % ROOM;
  room : left (posts_in l.lists) l.heads.items ≤ l.found.room;
}

abbrev pub decreases-loop-number : goal.decreases-loop-number
decreases-loop-number l = left (posts_in l.lists) l.heads.items
