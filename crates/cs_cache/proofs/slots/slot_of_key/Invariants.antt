use Rattle.std.proofs.Common.{◌≡◌, List, ◌++◌, None}
use Rattle.cs_model_kept.specs.KeptList.{found}
use Rattle.cs_cache.specs.Slots.{Slot, entries_in}
use Rattle.cs_cache.proofs.slots.slot_of_key.Given as goal

abbrev pub invariant-loop-slot : goal.invariant-loop-slot
invariant-loop-slot l = record {
  can_next : (goal.iterator-loop-slot).can_next l.slot-iterator;
  is_finite : (goal.iterator-loop-slot).is_finite l.slot-iterator;
  cut : (front : List Slot) × (l.slots.entries ≡ front ++ l.slot-iterator) × (found (entries_in front) l.key ≡ None);
}
