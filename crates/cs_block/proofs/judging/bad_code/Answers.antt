use Rattle.std.proofs.Common.{sym, ◌∙◌}
use Rattle.cs_block.proofs.ItemsLemmas.{bad_on, bad_here, bad_over, bad_done}
use Rattle.cs_block.proofs.judging.bad_code.Goals as goal

pub returns-in_default-clause-value : goal.returns-in_default-clause-value
returns-in_default-clause-value c = sym (bad_here c.args.rows c.loop.counter c.loop.at c.args.gaps.now c.loop-test.true c.in_default.ensures)
    ∙ c.loop.invariant.told

pub loop-preserved : goal.loop-preserved
loop-preserved c = let gap = c.in-Some.ensures in record {
  told = sym (bad_on c.args.rows c.loop.counter c.loop.at _ c.in-Some.next c.args.gaps.now c.loop-test.true c.in-Some.ensures) ∙ c.loop.invariant.told;
  within = gap.within;
}

pub returns-then-at-gaps-clause-value : goal.returns-then-at-gaps-clause-value
returns-then-at-gaps-clause-value c = sym (bad_over c.args.rows c.loop.counter c.loop.at c.args.gaps.now c.loop-test.false c.if-at-gaps.true)
    ∙ c.loop.invariant.told

pub returns-clause-value : goal.returns-clause-value
returns-clause-value c = sym (bad_done c.args.rows c.loop.counter c.loop.at c.args.gaps.now c.loop-test.false c.if-at-gaps.false) ∙ c.loop.invariant.told
