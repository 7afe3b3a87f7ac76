use Rattle.std.proofs.Common.{◌≡◌, ℕ, ◌<◌, length, slice_index_or, take}
use Rattle.std.specs.List.{sum_by}
use Rattle.cs_file.proofs.places.places_of.Given as goal

abbrev pub invariant-loop-head : goal.invariant-loop-head
invariant-loop-head l = record {
  count : length l.places.items ≡ l.head-index;
  each : (k : ℕ) → k < l.head-index → slice_index_or l.places.items k 0 ≡ sum_by (λ h. h.len) (take k l.heads);
  at : l.at ≡ sum_by (λ h. h.len) (take l.head-index l.heads);
}
