use Rattle.std.proofs.Common.{List, subst, arith}
use Rattle.cs_engine.specs.HeldRanges.{IsWithout, PassesAt, is_range}
use Rattle.cs_engine.specs.declared.held.HeldRange.{HeldRange}
use Rattle.cs_engine.proofs.RangeLemmas.{less_held, range_taken}
use Rattle.cs_engine.proofs.held.Holder.take.Goals as goal

pub invariant_of-self : goal.invariant_of-self
invariant_of-self c =
    let at = subst (λ (xs : List HeldRange). PassesAt (is_range c.args.words.0 c.args.words.1 c.args.kind) xs c.in_ok-place.place) c.deref.ensures.value c.in_ok-place.ensures.some in
    let less = less_held (range_taken c.self.inside.ranges.items _ c.in_ok-place.place c.args.words.0 c.args.words.1 c.args.kind c.remove-range.result at
    c.remove-range.ensures.value c.remove-range.ensures.items).0 in
    let few = c.self.invariant in
    omega (arith, less, few)

pub returns-clause-some : goal.returns-clause-some
returns-clause-some c =
    let at = subst (λ (xs : List HeldRange). PassesAt (is_range c.args.words.0 c.args.words.1 c.args.kind) xs c.in_ok-place.place) c.deref.ensures.value c.in_ok-place.ensures.some in
    let out = range_taken c.self.inside.ranges.items _ c.in_ok-place.place c.args.words.0 c.args.words.1 c.args.kind c.remove-range.result at
    c.remove-range.ensures.value c.remove-range.ensures.items in
    (subst (λ xs. IsWithout (record { low = c.args.words.0; high = c.args.words.1; what = c.remove-range.result.what }) xs c.remove-range.new.self.items) c.self.view_is out.0, out.1)
