use Rattle.std.proofs.Common.{◌≡◌, ◌+◌, get_or, set, arith, subst, sym, ap, refl, ◌∙◌}
use Rattle.std.specs.Prelude.{◌==◌}
use Rattle.std.specs.List.{count_by}
use Rattle.std.proofs.lemmas.Grind.{get_or_default_zero}
use Rattle.std.proofs.lemmas.List.{take_all}
use Rattle.std.proofs.lemmas.List.Elements.{All-get_or}
use Rattle.cs_vocab.specs.Ranges.{IsBelow}
use Rattle.cs_build.proofs.NumberCounts.{AreCounted, few_counted, none_counted, one_counted}
use Rattle.cs_build.proofs.parting.counts_of.Goals as goal

pub index_mut-requires : goal.index_mut-requires
index_mut-requires c =
    let below = All-get_or (IsBelow c.args.words) c.args.numbers.now c.loop-number.number-index 0 c.loop-number-test.true c.requires.below in
    omega (arith, below, c.loop-number.invariant.each, c.loop-number.counts.ok)

pub loop-number-init : goal.loop-number-init
loop-number-init c = subst (AreCounted c.args.words c.args.numbers.now 0) (sym (c.in_ok-counts.ensures.items_if_clones_equal (λ y e. e))) (none_counted c.args.words c.args.numbers.now)

pub overflow_add-index_mut : goal.overflow_add-index_mut
overflow_add-index_mut c =
    let below = All-get_or (IsBelow c.args.words) c.args.numbers.now c.loop-number.number-index 0 c.loop-number-test.true c.requires.below in
    let m = get_or c.args.numbers.now c.loop-number.number-index 0 in
    let few = few_counted c.args.words c.args.numbers.now c.loop-number.number-index c.loop-number.counts.items m c.loop-number.invariant below in
    let here = get_or_default_zero c.loop-number.counts.items m c.index_mut.result.now (omega (arith, below, c.loop-number.invariant.each)) in
    omega (arith, c.index_mut.ensures.value, here, few, c.loop-number-test.true, c.requires.few)

pub loop-number-preserved : goal.loop-number-preserved
loop-number-preserved c =
    let below = All-get_or (IsBelow c.args.words) c.args.numbers.now c.loop-number.number-index 0 c.loop-number-test.true c.requires.below in
    let m = get_or c.args.numbers.now c.loop-number.number-index 0 in
    let here : c.index_mut.result.now ≡ get_or c.loop-number.counts.items m 0 = c.index_mut.ensures.value ∙ get_or_default_zero c.loop-number.counts.items m c.index_mut.result.now (omega (arith, below, c.loop-number.invariant.each)) in
    subst (λ k. AreCounted c.args.words c.args.numbers.now (c.loop-number.number-index + 1) (set c.loop-number.counts.items m (k + 1))) (sym here)
    (one_counted c.args.words c.args.numbers.now c.loop-number.number-index c.loop-number.counts.items m c.loop-number-test.true refl below c.loop-number.invariant)

pub returns : goal.returns
returns c = record {
  each = c.loop-number.invariant.each;
  at = λ n l. c.loop-number.invariant.at n l ∙ ap (count_by (λ m. m == n)) (take_all c.loop-number.number-index c.args.numbers.now (omega (arith, c.loop-number-test.false)));
}
