use Rattle.std.proofs.Common.{◌≡◌, Some, sym, ap, ◌∙◌}
use Rattle.cs_model_kept.specs.KeptList.{is_held}
use Rattle.lru.specs.LruCache.{last_entry}
use Rattle.cs_cache.proofs.SlotLemmas.{refilled, found_last}
use Rattle.cs_cache.proofs.answers.Answers.put_first.Goals as goal

pub unreachable-requires-in-Err : goal.unreachable-requires-in-Err
unreachable-requires-in-Err c =
    let last : last_entry c.self.inside.slots.entries ≡ Some (c.in-Some.slot.now, c.in-Some.field-0-1.now) = sym c.in-Some.ensures in
    let ok = c.in-Err.ensures.succeeds (found_last c.self.inside.slots.entries c.in-Some.slot.now c.in-Some.field-0-1.now last c.len-count.ensures.valid.0) in
    cc

pub invariant_of-self : goal.invariant_of-self
invariant_of-self c =
    let s = c.self.inside.slots in
    let after = refilled s.entries s.cap c.in-Some.slot.now c.in-Some.field-0-1.now (c.args.key, c.args.entry) (sym c.in-Some.ensures) c.len-count.ensures.valid.0 c.self.invariant (ap (λ a. is_held a.entries c.args.key) c.self.view_is ∙ c.requires.new) in
    rw c.in-Ok.ensures.entries after.slots_are

pub returns-clause-entries : goal.returns-clause-entries
returns-clause-entries c =
    let s = c.self.inside.slots in
    let after = refilled s.entries s.cap c.in-Some.slot.now c.in-Some.field-0-1.now (c.args.key, c.args.entry) (sym c.in-Some.ensures) c.len-count.ensures.valid.0 c.self.invariant (ap (λ a. is_held a.entries c.args.key) c.self.view_is ∙ c.requires.new) in
    rw (c.in-Ok.ensures.entries, after.value, sym c.self.view_is)
