use Rattle.std.proofs.Common.{sym, ◌∙◌, inl, inr}
use Rattle.cs_block.proofs.RulePasses.{judging, judges_on, judged_all, too_late, stuck}
use Rattle.cs_block.proofs.judging.broken_row.Goals as goal

pub loop-i-init : goal.loop-i-init
loop-i-init c = judging c.args.weights c.args.head.now c.args.docs _

pub returns-in_default : goal.returns-in_default
returns-in_default c = elim c.in_default.ensures [
  | inl none ↦ absurd (stuck c.args.head.now.rows c.loop-i.i c.loop-i.at c.args.columns.now.gaps.now c.loop-i-test.true none
      (c.loop-i.invariant.codes ∙ c.requires.codes))
  | inr late ↦ sym (too_late c.args.weights c.args.head.now c.args.docs _ c.loop-i.i c.loop-i.at late.0 late.1 c.loop-i.last c.loop-i.before c.loop-i.bad_word
      c.loop-i.bad_score c.loop-i.bad_order c.loop-i-test.true late.2 late.3 c.loop-i.invariant)
]

pub loop-i-preserved : goal.loop-i-preserved
loop-i-preserved c =
    let here = c.in-Some.ensures in
    judges_on c.args.weights c.args.head.now c.args.docs _ c.loop-i.i c.loop-i.at here.n c.in-Some.next c.loop-i.last c.loop-i.before _ c.loop-i.bad_word
    c.loop-i.bad_score c.loop-i.bad_order c.keep-bad_word.result c.keep-bad_score.result c.keep-bad_order.result c.is_in_words.result c.is_scored.result
    c.is_after.result c.row_at-row.result
    c.loop-i-test.true here.gap here.sum here.below c.row_at-row.ensures c.is_in_words.ensures c.keep-bad_word.ensures c.is_scored.ensures
    c.keep-bad_score.ensures c.is_after.ensures c.keep-bad_order.ensures c.loop-i.invariant

pub returns : goal.returns
returns c = judged_all c.args.weights c.args.head.now c.args.docs _ c.loop-i.i c.loop-i.at c.loop-i.last c.loop-i.before c.loop-i.bad_word c.loop-i.bad_score
    c.loop-i.bad_order c.or_rule.result c.or_rule-2.result c.or_rule-3.result c.loop-i-test.false c.loop-i.invariant c.or_rule.ensures c.or_rule-2.ensures
    c.or_rule-3.ensures
