use Rattle.std.proofs.Common.{refl, ap, ◌∙◌, arith}
use Rattle.std.proofs.lemmas.List.{take_rest}
use Rattle.cs_gaps.specs.Reading.{moved, gap_at}
use Rattle.cs_gaps.proofs.PassLemmas.{begun, too_big, goes_on, cut, ended_here, weight_fits, product_fits, rest_fits}
use Rattle.cs_gaps.proofs.gap.read_gap.Goals as goal

pub loop-i-init : goal.loop-i-init
loop-i-init c = begun _

pub overflow_mul-from : goal.overflow_mul-from
overflow_mul-from c = omega (arith, product_fits c.from.result c.loop-i.weight c.loop-i.i (omega arith) c.loop-i.invariant.weighs c.loop-i.invariant.few)

pub overflow_add-n : goal.overflow_add-n
overflow_add-n c = omega (arith, product_fits c.from.result c.loop-i.weight c.loop-i.i (omega arith) c.loop-i.invariant.weighs c.loop-i.invariant.few, weight_fits c.loop-i.weight c.loop-i.i c.loop-i.invariant.weighs c.loop-i.invariant.few)

pub returns-then-b-lt128 : goal.returns-then-b-lt128
returns-then-b-lt128 c = ended_here _ c.args.bytes.now c.args.at c.loop-i.i c.loop-i.n c.loop-i.weight _ c.from.result c.end_gap.ensures c.from.ensures refl c.loop-i-test.true c.if-b-lt128.true c.loop-i.invariant

pub returns-then-i-eq4 : goal.returns-then-i-eq4
returns-then-i-eq4 c =
    let e = too_big _ _ _ _ _ refl c.loop-i-test.true c.if-b-lt128.false (rest_fits c.args.bytes.now c.args.at c.loop-i.i (λ k. omega (arith, c.type_inv.bytes k))) c.if-i-eq4.true c.loop-i.invariant in
    ap (moved c.args.at) (e ∙ ap gap_at (take_rest c.args.bytes.now c.args.at))

pub overflow_add-n-in-loop-i : goal.overflow_add-n-in-loop-i
overflow_add-n-in-loop-i c = omega (arith, product_fits c.from-in-loop-i.result c.loop-i.weight c.loop-i.i (omega (arith, rest_fits c.args.bytes.now c.args.at c.loop-i.i (λ k. omega (arith, c.type_inv.bytes k)))) c.loop-i.invariant.weighs c.loop-i.invariant.few, weight_fits c.loop-i.weight c.loop-i.i c.loop-i.invariant.weighs c.loop-i.invariant.few)

pub overflow_mul-weight : goal.overflow_mul-weight
overflow_mul-weight c = omega (arith, weight_fits c.loop-i.weight c.loop-i.i c.loop-i.invariant.weighs c.loop-i.invariant.few)

pub loop-i-preserved : goal.loop-i-preserved
loop-i-preserved c =
    rw c.from-in-loop-i.ensures
    (goes_on _ c.loop-i.n c.loop-i.weight c.loop-i.i _ refl c.loop-i-test.true c.if-b-lt128.false (rest_fits c.args.bytes.now c.args.at c.loop-i.i (λ k. omega (arith, c.type_inv.bytes k))) c.if-i-eq4.false c.loop-i.invariant)

pub returns : goal.returns
returns c =
    let e = cut _ c.loop-i.n c.loop-i.weight c.loop-i.i (omega arith) c.loop-i.invariant in
    ap (moved c.args.at) (e ∙ ap gap_at (take_rest c.args.bytes.now c.args.at))
