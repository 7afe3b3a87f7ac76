use Rattle.std.proofs.Common.{◌∙◌}
use Rattle.cs_model_index.specs.FileRules.{is_bound}
use Rattle.cs_file.proofs.BlockParts.{bound_pairs, no_bounds, pair_bound, pairs_count, pairs_end}
use Rattle.cs_file.proofs.LaidLemmas.{even_start, even_on, even_broken, even_end}
use Rattle.cs_file.proofs.parts.bad_bound.Goals as goal

pub loop-i-init : goal.loop-i-init
loop-i-init c = even_start (λ i. is_bound i.value) c.args.entries.size c.args.entries.first (bound_pairs c.args.parts.now c.args.heads.now)

pub returns-then-not-is_bound : goal.returns-then-not-is_bound
returns-then-not-is_bound c =
    let pairs = bound_pairs c.args.parts.now c.args.heads.now in
    even_broken (λ i. is_bound i.value) c.args.entries.size c.args.entries.first pairs c.loop-i.i c.place.result no_bounds c.is_bound.result
    (pairs_count c.args.parts.now c.args.heads.now c.loop-i.i c.requires.count c.loop-i-test.true) c.place.ensures
    (c.is_bound.ensures ∙ pair_bound c.args.parts.now c.args.heads.now c.loop-i.i c.requires.count c.loop-i-test.true) c.if-not-is_bound.true c.loop-i.invariant

pub loop-i-preserved : goal.loop-i-preserved
loop-i-preserved c =
    let pairs = bound_pairs c.args.parts.now c.args.heads.now in
    even_on (λ i. is_bound i.value) c.args.entries.size c.args.entries.first pairs c.loop-i.i no_bounds c.is_bound.result
    (pairs_count c.args.parts.now c.args.heads.now c.loop-i.i c.requires.count c.loop-i-test.true)
    (c.is_bound.ensures ∙ pair_bound c.args.parts.now c.args.heads.now c.loop-i.i c.requires.count c.loop-i-test.true) c.if-not-is_bound.false c.loop-i.invariant

pub returns : goal.returns
returns c = even_end (λ i. is_bound i.value) c.args.entries.size c.args.entries.first (bound_pairs c.args.parts.now c.args.heads.now) c.loop-i.i
    (pairs_end c.args.parts.now c.args.heads.now c.loop-i.i c.loop-i-test.false) c.loop-i.invariant
