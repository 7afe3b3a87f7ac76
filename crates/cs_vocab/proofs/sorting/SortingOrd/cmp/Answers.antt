use Rattle.std.proofs.Common.{◌<◌, ◌∙◌, sym, ap₂, arith}
use Rattle.std.specs.Ordering.{nat_cmp}
use Rattle.std.specs.Cmp.Lexicographic.{slice_cmp}
use Rattle.cs_vocab.specs.Leads.{lead}
use Rattle.cs_vocab.proofs.LeadLemmas.{greater_by, less_by}
use Rattle.cs_vocab.proofs.sorting.SortingOrd.cmp.Goals as goal

pub returns-then-self-other : goal.returns-then-self-other
returns-then-self-other c =
    let a = c.self.inside.word.now in
    let b = c.other.inside.word.now in
    let less : lead 8 a < lead 8 b = omega (arith, c.self.invariant.0, c.other.invariant.0, c.if-self-other.true) in
    sym (ap₂ (slice_cmp nat_cmp) (sym c.self.view_is) (sym c.other.view_is) ∙ less_by 8 a b c.self.invariant.1 c.other.invariant.1 less)

pub returns-then-other-self : goal.returns-then-other-self
returns-then-other-self c =
    let a = c.self.inside.word.now in
    let b = c.other.inside.word.now in
    let less : lead 8 b < lead 8 a = omega (arith, c.self.invariant.0, c.other.invariant.0, c.if-other-self.true) in
    sym (ap₂ (slice_cmp nat_cmp) (sym c.self.view_is) (sym c.other.view_is) ∙ greater_by 8 a b c.self.invariant.1 c.other.invariant.1 less)
