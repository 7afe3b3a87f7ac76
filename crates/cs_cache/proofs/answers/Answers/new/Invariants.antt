use Rattle.std.proofs.Common.{◌≡◌, ℕ, ◌≤◌, [], None, nat_eq, length}
use Rattle.std.specs.Map.{lookup_entry}
use Rattle.cs_cache.specs.Slots.{entries_in, IsEmptyLast}
use Rattle.cs_cache.proofs.answers.Answers.new.Given as goal

abbrev pub invariant-loop-slot : goal.invariant-loop-slot
invariant-loop-slot l = record {
  empty : entries_in l.slots.entries ≡ [];
  last : IsEmptyLast l.slots.entries;
  count : length l.slots.entries ≡ l.slot;
  cap : l.slots.cap ≡ l.fn.capacity;
  later : (k : ℕ) → l.slot ≤ k → lookup_entry (nat_eq k) l.slots.entries ≡ None;
}
