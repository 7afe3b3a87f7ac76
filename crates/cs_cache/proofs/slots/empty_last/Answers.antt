use Rattle.std.proofs.Common.{◌≡◌, Some, sym}
use Rattle.lru.specs.LruCache.{last_entry}
use Rattle.cs_cache.proofs.SlotLemmas.{found_last, last_emptied}
use Rattle.cs_cache.proofs.slots.empty_last.Goals as goal

pub unreachable-requires-in-Err : goal.unreachable-requires-in-Err
unreachable-requires-in-Err c =
    let s = c.args.slots.now in
    let last : last_entry s.entries ≡ Some (c.in-Some.slot.now, c.in-Some.field-0-1.now) = sym c.in-Some.ensures in
    let ok = c.in-Err.ensures.succeeds (found_last s.entries c.in-Some.slot.now c.in-Some.field-0-1.now last c.len-count.ensures.valid.0) in
    cc

pub returns-clause-emptied : goal.returns-clause-emptied
returns-clause-emptied c =
    let s = c.args.slots.now in (
      c.in-Some.slot.now,
      rw c.in-Ok.ensures.entries (last_emptied s.entries s.cap c.in-Some.slot.now c.in-Some.field-0-1.now (sym c.in-Some.ensures) c.len-count.ensures.valid.0),
    )
