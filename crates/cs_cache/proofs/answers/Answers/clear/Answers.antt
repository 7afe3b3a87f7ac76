use Rattle.std.proofs.Common.{sym, ◌∙◌}
use Rattle.cs_cache.proofs.SlotLemmas.{emptied}
use Rattle.cs_cache.proofs.answers.Answers.clear.Goals as goal

pub invariant_of-self : goal.invariant_of-self
invariant_of-self c =
    emptied c.empty.new.slots.entries c.empty.new.slots.cap c.empty.ensures.entries (c.empty.ensures.count ∙ c.self.invariant.count ∙ sym c.empty.ensures.capacity)
