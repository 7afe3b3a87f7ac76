use Rattle.std.proofs.Common.{◌≡◌, arith, ap, ◌∙◌, length}
use Rattle.std.proofs.lemmas.List.{length-map}
use Rattle.cs_block.proofs.PutLemmas.{puts_on, four_gaps}
use Rattle.cs_block.proofs.encoding.with_gaps.Goals as goal

pub with_four_gaps-out-requires-clause-sorted : goal.with_four_gaps-out-requires-clause-sorted
with_four_gaps-out-requires-clause-sorted c = (four_gaps c.loop-i.before c.args.rows.now.posts c.docs-docs.result.now c.loop-i.i c.docs-docs.ensures (omega arith) c.loop-i.invariant.up).sorted

pub loop-i-preserved : goal.loop-i-preserved
loop-i-preserved c =
    let s = four_gaps c.loop-i.before c.args.rows.now.posts c.docs-docs.result.now c.loop-i.i c.docs-docs.ensures (omega (arith, c.loop-i-test.true, c.loop-i.invariant.within)) c.loop-i.invariant.up in
    let len : length c.docs-docs.result.now ≡ length c.args.rows.now.posts = ap length c.docs-docs.ensures ∙ length-map c.args.rows.now.posts _ in
    record {
      put = rw c.with_four_gaps-out.ensures.items (puts_on _ _ _ _ _ _ s.put c.loop-i.invariant.put);
      up = s.up;
      room = omega (arith, len, c.with_four_gaps-out.ensures.few, c.with_four_gaps-out.ensures.capacity, c.loop-i-test.true, c.loop-i.invariant.room, c.loop-i.invariant.within);
      within = omega (arith, c.loop-i-test.true, c.loop-i.invariant.within);
    }
