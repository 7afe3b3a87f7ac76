use Rattle.std.proofs.Common.{◌≡◌, [], length, take}
use Rattle.cs_cache.specs.Slots.{entries_in}
use Rattle.cs_cache.proofs.slots.empty.Given as goal

abbrev pub invariant-loop-emptied : goal.invariant-loop-emptied
invariant-loop-emptied l = record {
  front : entries_in (take l._emptied l.slots.entries) ≡ [];
  count : length l.slots.entries ≡ length l.initial.slots.entries;
  cap : l.slots.cap ≡ l.initial.slots.cap;
}
