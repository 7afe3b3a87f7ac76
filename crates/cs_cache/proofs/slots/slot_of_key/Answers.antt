use Rattle.std.proofs.Common.{◌≡◌, false, [], ◌∷◌, ◌++◌, sym, ap, ◌∙◌, append_assoc}
use Rattle.cs_cache.specs.Slots.{Slot, has_key}
use Rattle.cs_cache.proofs.SlotLemmas.{at_key, find_more}
use Rattle.cs_cache.proofs.slots.slot_of_key.Goals as goal

pub returns-then-has-clause-found : goal.returns-then-has-clause-found
returns-then-has-clause-found c =
    let cut = c.loop-slot.invariant.cut in
    let at = at_key c.args.key.now c.in-Some.filled.now (sym c.has.ensures ∙ c.if-has.true) in
    let whole = cut.1 ∙ ap (λ es. cut.0 ++ es) (c.in-Some.ensures.steps ∙ ap (λ o. (c.in-Some.slot.now, o) ∷ c.next.new.self) at.1) in
    (cut.0, at.0, c.next.new.self, whole, cut.2, at.2)

pub loop-slot-preserved : goal.loop-slot-preserved
loop-slot-preserved c =
    let cut = c.loop-slot.invariant.cut in
    let s : Slot = (c.in-Some.slot.now, c.in-Some.filled.now) in
    let misses : has_key c.args.key.now c.in-Some.filled.now ≡ false = sym c.has.ensures ∙ c.if-has.false in
    record {
      can_next = tt;
      is_finite = tt;
      cut = (
        cut.0 ++ s ∷ [],
        cut.1 ∙ ap (λ es. cut.0 ++ es) c.in-Some.ensures.steps ∙ sym (append_assoc cut.0 (s ∷ []) c.next.new.self),
        find_more c.args.key.now cut.0 s cut.2 misses,
      );
    }
