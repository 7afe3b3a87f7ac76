use Rattle.std.proofs.Common.{ap, arith, length, length-append, ◌+◌, drop}
use Rattle.cs_build.specs.Joining.{held_posts}
use Rattle.cs_build.proofs.JoiningLemmas.{held_end, held_next}
use Rattle.cs_build.proofs.joining.posts_in.Goals as goal

pub loop-block-preserved : goal.loop-block-preserved
loop-block-preserved c =
    let bs = c.args.blocks.now in
    let e = ap length (held_next bs c.loop-block.block-index c.block-item.result c.loop-block-test.true c.block-item.is) in
    let l = length-append c.block-item.result.posts (held_posts (drop (c.loop-block.block-index + 1) bs)) in
    let was = c.loop-block.invariant.sum in
    let now = c.saturating_add-posts.ensures in
    let len = c.len.ensures.value in
    record {
      sum = omega (arith, e, l, was, now, len);
      fits = omega (arith, now);
    }

pub returns : goal.returns
returns c =
    let end = ap length (held_end c.args.blocks.now c.loop-block.block-index c.loop-block-test.false) in
    let was = c.loop-block.invariant.sum in
    let fits = c.loop-block.invariant.fits in
    omega (arith, end, was, fits)
