use Rattle.std.proofs.Common.{◌≡◌, ◌+◌, ◌≤◌, ◌++◌, get_or, map, take}
use Rattle.cs_base.specs.declared.content.doc.Post.{Post}
use Rattle.cs_rows.proofs.between.push_places.Given as goal

abbrev pub invariant-loop-place : goal.invariant-loop-place
invariant-loop-place l = record {
  posts : (d : Post) → l.found.posts ≡ l.fn.found.posts ++ map (λ i. get_or l.posts.posts i d) (take l.place-index l.places);
  room : l.fn.found.room ≤ l.found.room + l.place-index;
}
