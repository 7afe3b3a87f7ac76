use Rattle.std.proofs.Common.{◌≡◌, ℕ, ◌+◌, length, arith, subst}
use Rattle.cs_block.specs.RowRuns.{HasDocs}
use Rattle.cs_block.proofs.RunsLemmas.{DocsTo, docs_start, docs_more, docs_all, short_here}
use Rattle.cs_block.proofs.run_docs.short_docs.Goals as goal

pub loop-i-init : goal.loop-i-init
loop-i-init c =
    let e : c.args.at ≡ c.args.at + 0 = omega arith in
    record {
      made = subst (λ (x : ℕ). DocsTo c.args.gaps.now c.args.at c.args.before c.args.out.now 0 x c.args.before) e
          (docs_start c.args.gaps.now c.args.at c.args.before c.args.out.now (omega arith));
      small = omega arith;
    }

pub loop-i-preserved : goal.loop-i-preserved
loop-i-preserved c =
    let small = c.loop-i.invariant.small in
    let next = c.args.at + (c.loop-i.i + 1) in
    let gap = short_here c.args.gaps.now (c.args.at + c.loop-i.i) next (omega arith) (omega arith) (c.requires.short c.loop-i.i (omega arith)) in
    let byte = c.requires.short c.loop-i.i (omega arith) in
    record {
      made = docs_more c.args.gaps.now c.args.at c.args.before c.loop-i.out c.loop-i.i (c.args.at + c.loop-i.i) c.loop-i.doc _ next _ (omega arith) gap
          (omega arith) c.loop-i.invariant.made;
      small = omega arith;
    }

pub returns : goal.returns
returns c =
    let all : length c.loop-i.out ≡ c.loop-i.i = omega arith in
    let next : c.args.at + c.loop-i.i ≡ c.args.at + length c.loop-i.out = omega arith in
    subst (HasDocs c.args.gaps.now c.args.at c.args.before c.args.docs c.loop-i.out) next
    (docs_all c.args.gaps.now c.args.at c.args.before c.args.docs c.loop-i.out c.loop-i.i (c.args.at + c.loop-i.i) c.loop-i.doc all (λ _. omega arith)
    c.loop-i.invariant.made)
