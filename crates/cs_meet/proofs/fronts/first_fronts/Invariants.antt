use Rattle.std.proofs.Common.{ℕ, ◌+◌, ◌<◌, [], map, length, get_or}
use Rattle.std.specs.Prelude.{slice_index}
use Rattle.cs_meet.specs.Fronts.{IsFrontAt, IsTree}
use Rattle.cs_meet.proofs.fronts.first_fronts.Given as goal

abbrev pub invariant-loop-number : goal.invariant-loop-number
invariant-loop-number l = record {
  tree : IsTree (length l.lists) l.tree.items;
  fronts : (k : ℕ) → k < length l.lists → k < l.number → IsFrontAt (get_or (map (λ c. c.posts) l.lists) k []) 0 k (slice_index l.tree.items (length l.lists + k));
}
