use Rattle.std.proofs.Common.{ℕ, ◌+◌, ◌<◌, length, get_or, ◌∙◌, sym, ap, arith}
use Rattle.std.proofs.lemmas.Bool.{and_parts}
use Rattle.cs_block.proofs.RunsLemmas.{docs_start, docs_more, docs_all, pair_here}
use Rattle.cs_block.proofs.run_docs.pair_docs.Goals as goal

pub loop-i-init : goal.loop-i-init
loop-i-init c = record {
  made = λ _. docs_start c.args.gaps.now c.args.at c.args.before c.args.out.now (omega arith);
  small = omega arith;
  far = omega arith;
}

pub loop-i-preserved : goal.loop-i-preserved
loop-i-preserved c =
    let gaps = c.args.gaps.now in
    let next = c.loop-i.next in
    let number = c.pair_number-doc.result in
    let behind = next + c.pair_len-next.result in
    let few = c.pair_number-doc.ensures.few in
    let most = c.pair_len-next.ensures.most in
    let small = c.loop-i.invariant.small in
    let far = c.loop-i.invariant.far in
    let inside : next + 1 < length gaps = omega arith in
    let byte : get_or gaps next 0 < 256 = omega (arith, c.type_inv.gaps next) in
    record {
      made = λ e.
          (let p = and_parts c.loop-i.holds c.is_pair-holds.result e in
          let gap = pair_here gaps next number behind inside byte (sym c.is_pair-holds.ensures ∙ p.1) c.pair_number-doc.ensures.one
          c.pair_number-doc.ensures.two
          (λ lt. ap (λ (x : ℕ). next + x) (c.pair_len-next.ensures.one lt)) (λ ge. ap (λ (x : ℕ). next + x) (c.pair_len-next.ensures.two ge)) in
          docs_more gaps c.args.at c.args.before c.loop-i.out c.loop-i.i next c.loop-i.doc number behind _ (omega arith) gap (omega arith)
          (c.loop-i.invariant.made p.0));
      small = omega arith;
      far = omega arith;
    }

pub returns : goal.returns
returns c = docs_all c.args.gaps.now c.args.at c.args.before c.args.docs c.loop-i.out c.loop-i.i c.loop-i.next c.loop-i.doc (omega arith) (λ _. omega arith)
    (c.loop-i.invariant.made c.if-not-holds.false)
