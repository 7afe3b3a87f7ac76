use Rattle.std.proofs.Common.{◌≡◌}
use Rattle.cs_model_kept.specs.KeptList.{found}
use Rattle.cs_cache.specs.Slots.{entries_in}
use Rattle.cs_cache.proofs.slots.entry_of_key.Given as goal

abbrev pub invariant-loop-filled : goal.invariant-loop-filled
invariant-loop-filled l = record {
  can_next : (goal.iterator-loop-filled).can_next l.filled-iterator;
  is_finite : (goal.iterator-loop-filled).is_finite l.filled-iterator;
  same : found (entries_in l.filled-iterator) l.key ≡ found (entries_in l.slots.entries) l.key;
}
