use Rattle.std.proofs.Common.{◌≡◌, ◌≢◌, ℕ, ◌+◌, ◌*◌, ◌/◌, ◌<◌, ◌≤◌, length, min, slice_index}
use Rattle.cs_meet.proofs.fronts.put_front.Given as goal

abbrev pub invariant-loop-at : goal.invariant-loop-at
invariant-loop-at l = record {
  from : 1 ≤ l.at;
  to : l.at < 2 * l.lists;
  len : length l.tree.items ≡ 2 * l.lists;
  but : (i : ℕ) → 1 ≤ i → i < l.lists → i ≢ l.at / 2 → slice_index l.tree.items i ≡ min (slice_index l.tree.items (2 * i)) (slice_index l.tree.items (2 * i + 1));
  put : slice_index l.tree.items (l.lists + l.number) ≡ l.front;
  others : (k : ℕ) → k < l.lists → k ≢ l.number → slice_index l.tree.items (l.lists + k) ≡ slice_index l.initial.tree.items (l.lists + k);
}

abbrev pub decreases-loop-at : goal.decreases-loop-at
decreases-loop-at l = l.at
