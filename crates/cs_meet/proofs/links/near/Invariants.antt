use Rattle.std.proofs.Common.{◌≡◌, ◌+◌, ◌-◌, ◌≤◌, ◌++◌, length, drop}
use Rattle.std.specs.Prelude.{max}
use Rattle.cs_base.specs.declared.content.doc.Post.{Post}
use Rattle.cs_base.specs.declared.content.limits.TheConstants.{MAX_DISTANCE}
use Rattle.cs_meet.specs.Filters.{near}
use Rattle.cs_meet.specs.RowPlaces.{Ahead}
use Rattle.cs_meet.proofs.links.near.Given as goal

abbrev pub invariant-loop-j : goal.invariant-loop-j
invariant-loop-j l = record {
  told : near l.a.posts l.b.posts ≡ l.found.posts ++ near l.a.posts (drop l.j l.b.posts);
  first : Ahead (λ (r : Post). r.doc) (λ (r : Post). max (r.pos - MAX_DISTANCE) 1) l.a.posts l.b.posts l.lo l.j;
  behind : Ahead (λ (r : Post). r.doc) (λ (r : Post). r.pos + 1) l.a.posts l.b.posts l.hi l.j;
  room : length l.b.posts ≤ l.found.room + l.j;
}

abbrev pub decreases-loop-j : goal.decreases-loop-j
decreases-loop-j l = length l.b.posts - l.j
