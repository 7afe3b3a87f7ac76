use Rattle.std.proofs.Common.{◌≡◌, ◌-◌, ◌<◌, ◌∙◌, ap, subst, sym, refl, arith}
use Rattle.std.proofs.lemmas.List.{get_or_default}
use Rattle.cs_tables.specs.declared.counts.Mark.{Mark}
use Rattle.cs_tables.specs.declared.counts.TheConstants.{NO_DOC}
use Rattle.cs_tables.specs.Marks.{saw}
use Rattle.cs_tables.specs.WordCounts.{HasCounted, WordCountsView}
use Rattle.cs_tables.proofs.WordCountsLemmas.{one_counted, row_seen}
use Rattle.cs_tables.proofs.word_counts.WordCounts.see.Goals as goal

pub returns-clause-counted : goal.returns-clause-counted
returns-clause-counted c = λ p d w seen few h.
    let own : WordCountsView = record { low = c.self.inside.low; high = c.self.inside.high; marks = c.self.inside.marks.items } in
    let low = ap (λ (t : WordCountsView). t.low) c.self.view_is in
    let high = ap (λ (t : WordCountsView). t.high) c.self.view_is in
    let sized = c.self.invariant.0 in
    let from = c.requires.from in
    let upto = c.requires.upto in
    let saws = subst (λ (m : Mark). m.docs < NO_DOC → c.see.new.self ≡ saw m c.args.doc) (c.index_mut.ensures.value ∙ get_or_default own.marks (c.args.word - own.low) _ (record { docs = 0; last = 0 }) (omega (arith, low, high, from, upto, sized))) c.see.ensures in
    row_seen seen p own _ refl refl (omega (arith, low, from, w), omega (arith, high, upto, w))
    (one_counted own.low own.high own.marks c.args.doc c.args.word c.see.new.self sized (omega (arith, low, from)) (omega (arith, high, upto)) saws p d w seen few)
    (subst (HasCounted seen) (sym c.self.view_is) h)
