use Rattle.std.proofs.Common.{ℕ, ◌+◌, ◌-◌, ◌≤◌, List, length, arith, subst}
use Rattle.std.proofs.lemmas.List.{take_all}
use Rattle.cs_block.specs.RowRuns.{HasDocs}
use Rattle.cs_block.proofs.RunsLemmas.{up_to_start, up_to_more}
use Rattle.cs_block.proofs.run_docs.stepped_docs.Goals as goal

pub loop-i-init : goal.loop-i-init
loop-i-init c = up_to_start c.args.gaps.now c.args.at c.args.before c.args.docs c.args.out.now c.requires.within

pub loop-i-preserved : goal.loop-i-preserved
loop-i-preserved c =
    let gaps = c.args.gaps.now in
    let i = c.loop-i.i in
    let h = c.loop-i.invariant in
    let inside = h.inside in
    let rows = c.min-rows.result in
    let few = c.min-rows.ensures in
    let some = c.group_rows.ensures.some in
    let room : i + rows ≤ length c.loop-i.out = omega (arith, few, c.loop-i-test.true, inside) in
    up_to_more gaps c.args.at c.args.before c.args.docs c.loop-i.out c.few_docs.new.out i rows (i + rows - i) c.loop-i.next c.loop-i.doc
    c.in_ok-behind.behind (omega arith) (omega (arith, few, some, c.loop-i-test.true)) room c.few_docs.auto.out c.in_ok-behind.ensures h

pub returns : goal.returns
returns c =
    let h = c.loop-i.invariant in
    subst (λ (xs : List ℕ). HasDocs c.args.gaps.now c.args.at c.args.before c.args.docs xs c.loop-i.next)
    (take_all c.loop-i.i c.loop-i.out (omega (arith, c.loop-i-test.false))) h.made
