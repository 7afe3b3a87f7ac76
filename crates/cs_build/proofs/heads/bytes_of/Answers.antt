use Rattle.std.proofs.Common.{◌≡◌, ◌-◌, [], length, drop, ap, arith}
use Rattle.std.proofs.lemmas.List.{drop_all}
use Rattle.cs_base.specs.index.GapCode.{code}
use Rattle.cs_model_index.specs.Blocks.{gap_column}
use Rattle.cs_build.proofs.LengthLemmas.{gaps_on, no_gaps, block_length}
use Rattle.cs_build.proofs.heads.bytes_of.Goals as goal

pub loop-i-preserved : goal.loop-i-preserved
loop-i-preserved c =
    let on = gaps_on c.loop-i.before c.loop-i.i c.get-doc.result c.args.block.now.posts (omega (arith, c.loop-i-test.true, c.len-i-end.ensures.value)) c.get-doc.ensures in
    let gap : c.code_len.result ≡ length (code (c.get-doc.result.doc - c.loop-i.before)) = rw c.saturating_sub.ensures at c.code_len.ensures.value in
    record { told = omega (arith, on, gap, c.loop-i.invariant.told); few = omega (arith, c.code_len.ensures.few, c.loop-i.invariant.few) }

pub returns : goal.returns
returns c = λ lo.
    let ps = c.args.block.now.posts in
    let done : length (gap_column c.loop-i.before (drop c.loop-i.i ps)) ≡ length (gap_column c.loop-i.before []) = ap (λ x. length (gap_column c.loop-i.before x)) (drop_all c.loop-i.i ps (omega (arith, c.loop-i-test.false, c.len-i-end.ensures.value))) in
    omega (arith, done, no_gaps c.loop-i.before, block_length ps lo, c.loop-i.invariant.told, c.loop-i.auto, c.len-i-end.ensures.value, c.loop-i-test.false)
