use Rattle.std.proofs.Common.{◌∙◌, ◌<◌, length, arith, sym, ap}
use Rattle.std.proofs.lemmas.List.{take_all}
use Rattle.cs_cache.specs.Slots.{entries_in}
use Rattle.cs_cache.proofs.SlotLemmas.{emptied-length, emptied_more}
use Rattle.cs_cache.proofs.slots.empty.Goals as goal

pub loop-emptied-preserved : goal.loop-emptied-preserved
loop-emptied-preserved c =
    let inv = c.loop-emptied.invariant in
    let es = c.loop-emptied.slots.entries in
    let new = c.empty_last.new.slots.entries in
    let count = inv.count in
    let long = c.len-emptied-end.ensures.len in
    let less : c.loop-emptied._emptied < length es = omega (arith, c.loop-emptied-test.true, long, count) in
    record {
      front = emptied_more es new c.loop-emptied._emptied c.empty_last.ensures.emptied less inv.front;
      count = emptied-length es new c.empty_last.ensures.emptied (omega (arith, less)) ∙ inv.count;
      cap = c.empty_last.ensures.capacity ∙ inv.cap;
    }

pub returns-clause-entries : goal.returns-clause-entries
returns-clause-entries c =
    let inv = c.loop-emptied.invariant in
    let es = c.loop-emptied.slots.entries in
    let count = inv.count in
    let long = c.len-emptied-end.ensures.len in
    ap entries_in (sym (take_all c.loop-emptied._emptied es (omega (arith, c.loop-emptied-test.false, long, count)))) ∙ inv.front
