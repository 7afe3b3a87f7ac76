use Rattle.std.proofs.Common.{arith}
use Rattle.cs_block.proofs.RunsLemmas.{docs_start, docs_more, docs_all}
use Rattle.cs_block.proofs.run_docs.long_docs.Goals as goal

pub loop-i-init : goal.loop-i-init
loop-i-init c = record {
  made = docs_start c.args.gaps.now c.args.at c.args.before c.args.out.now c.requires.within;
  below = λ lt. absurd (omega arith);
  small = omega arith;
}

pub loop-i-preserved : goal.loop-i-preserved
loop-i-preserved c =
    let here = c.in-Some.ensures in
    let below = here.below in
    record {
      made = docs_more c.args.gaps.now c.args.at c.args.before c.loop-i.out c.loop-i.i c.loop-i.next c.loop-i.doc here.n c.in-Some.behind _ (omega arith)
          here.gap here.sum c.loop-i.invariant.made;
      below = λ _. below;
      small = omega (arith, below);
    }

pub returns : goal.returns
returns c = docs_all c.args.gaps.now c.args.at c.args.before c.args.docs c.loop-i.out c.loop-i.i c.loop-i.next c.loop-i.doc (omega arith)
    c.loop-i.invariant.below c.loop-i.invariant.made
