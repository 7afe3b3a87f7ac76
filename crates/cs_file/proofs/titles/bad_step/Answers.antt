use Rattle.std.proofs.Common.{◌+◌, ◌*◌, ap}
use Rattle.cs_model_index.specs.FileRules.{is_onward}
use Rattle.cs_model_index.specs.declared.limits.TheConstants.{NUMBER_BYTES}
use Rattle.cs_file.proofs.LaidLemmas.{even_start, even_on, even_broken, even_end}
use Rattle.cs_file.proofs.titles.bad_step.Goals as goal

pub loop-i-init : goal.loop-i-init
loop-i-init c = even_start (λ i. is_onward i.last i.value) NUMBER_BYTES c.args.first c.args.offsets.now

pub returns-then-not-is_onward : goal.returns-then-not-is_onward
returns-then-not-is_onward c = even_broken (λ i. is_onward i.last i.value) NUMBER_BYTES c.args.first c.args.offsets.now c.loop-i.i _ 0
    c.is_onward.result c.loop-i-test.true (ap (λ n. c.args.first + n * c.loop-i.i) c.from.ensures) c.is_onward.ensures c.if-not-is_onward.true c.loop-i.invariant

pub loop-i-preserved : goal.loop-i-preserved
loop-i-preserved c = even_on (λ i. is_onward i.last i.value) NUMBER_BYTES c.args.first c.args.offsets.now c.loop-i.i 0 c.is_onward.result c.loop-i-test.true
    c.is_onward.ensures c.if-not-is_onward.false c.loop-i.invariant

pub returns : goal.returns
returns c = even_end (λ i. is_onward i.last i.value) NUMBER_BYTES c.args.first c.args.offsets.now c.loop-i.i c.loop-i-test.false c.loop-i.invariant
