use Rattle.std.proofs.Common.{◌+◌, ◌-◌, ◌/◌, ◌<◌, ◌∙◌, length, true, arith, sym}
use Rattle.cs_meet.proofs.Halving.{all_through, at_any}
use Rattle.cs_meet.proofs.skip.search_between.Goals as goal

pub loop-lo-preserved-then-comes_before : goal.loop-lo-preserved-then-comes_before
loop-lo-preserved-then-comes_before c =
    let a = c.args.posts.now.posts in
    let middle = c.loop-lo.lo + (c.loop-lo.hi - c.loop-lo.lo) / 2 in
    let in_a : middle < length a = omega arith in
    let yes = at_any a middle c.args.doc c.args.pos c.get.result in_a c.get.ensures true (sym c.comes_before.ensures ∙ c.if-comes_before.true) in
    record {
      onward = omega arith;
      order = omega arith;
      within = c.loop-lo.invariant.within;
      before = all_through a middle c.args.doc c.args.pos c.requires.sorted in_a yes (middle + 1) (omega arith);
      stop = c.loop-lo.invariant.stop;
    }
