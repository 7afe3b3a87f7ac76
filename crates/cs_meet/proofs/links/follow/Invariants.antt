use Rattle.std.proofs.Common.{◌≡◌, ◌+◌, ◌-◌, ◌≤◌, ◌++◌, length, drop}
use Rattle.cs_base.specs.declared.content.doc.Post.{Post}
use Rattle.cs_meet.specs.Filters.{follow}
use Rattle.cs_meet.specs.RowPlaces.{Ahead}
use Rattle.cs_meet.proofs.links.follow.Given as goal

abbrev pub invariant-loop-j : goal.invariant-loop-j
invariant-loop-j l = record {
  told : follow l.a.posts l.b.posts ≡ l.found.posts ++ follow l.a.posts (drop l.j l.b.posts);
  ahead : Ahead (λ (r : Post). r.doc) (λ (r : Post). r.pos - 1) l.a.posts l.b.posts l.i l.j;
  room : length l.b.posts ≤ l.found.room + l.j;
}

abbrev pub decreases-loop-j : goal.decreases-loop-j
decreases-loop-j l = length l.b.posts - l.j
