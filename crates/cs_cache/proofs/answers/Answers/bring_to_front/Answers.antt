use Rattle.std.proofs.Common.{sym}
use Rattle.cs_cache.proofs.SlotLemmas.{moved, unmoved}
use Rattle.cs_cache.proofs.answers.Answers.bring_to_front.Goals as goal

pub invariant_of-self : goal.invariant_of-self
invariant_of-self c =
    let at = c.in-Some.ensures.found in
    let s = c.self.inside.slots in
    let after = moved s.entries at.0 c.in-Some.slot at.1 at.2 s.cap c.args.key.now at.3 at.4 at.5 c.len-count.ensures.valid.0 c.self.invariant in
    rw c.promote.ensures.entries after.slots_are

pub returns-in-Some-clause-entries : goal.returns-in-Some-clause-entries
returns-in-Some-clause-entries c =
    let at = c.in-Some.ensures.found in
    let s = c.self.inside.slots in
    let after = moved s.entries at.0 c.in-Some.slot at.1 at.2 s.cap c.args.key.now at.3 at.4 at.5 c.len-count.ensures.valid.0 c.self.invariant in
    rw (c.promote.ensures.entries, after.value, sym c.self.view_is)

pub returns-in_default-clause-entries : goal.returns-in_default-clause-entries
returns-in_default-clause-entries c = rw (sym c.self.view_is) (unmoved c.self.inside.slots.entries c.args.key.now c.in_default.ensures.none)
