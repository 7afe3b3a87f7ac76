use Rattle.std.proofs.Common.{arith, ap, ◌∙◌}
use Rattle.lru.specs.LruCache.{lru_cache}
use Rattle.cs_cache.proofs.SlotLemmas.{empty_slots, fresh_slot, still_none}
use Rattle.cs_cache.proofs.answers.Answers.new.Goals as goal

pub loop-slot-preserved : goal.loop-slot-preserved
loop-slot-preserved c =
    let inv = c.loop-slot.invariant in
    let es = c.loop-slot.slots.entries in
    let n = c.loop-slot.slots.cap in
    let now = c.in_ok-put.ensures.entries ∙ ap (λ es. lru_cache es n) (fresh_slot es n c.loop-slot.slot (inv.later c.loop-slot.slot (omega arith)) (omega (arith, inv.count, inv.cap))) in
    rw now record {
      empty = inv.empty;
      last = inv.empty;
      count = omega (arith, inv.count);
      cap = inv.cap;
      later = λ k more. still_none es c.loop-slot.slot k (omega arith) (inv.later k (omega arith));
    }

pub invariant_of-result : goal.invariant_of-result
invariant_of-result c =
    let inv = c.loop-slot.invariant in
    empty_slots c.loop-slot.slots.entries c.loop-slot.slots.cap inv.empty inv.last (omega (arith, inv.count, inv.cap))
