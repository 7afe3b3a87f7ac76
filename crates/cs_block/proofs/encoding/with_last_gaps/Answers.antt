use Rattle.std.proofs.Common.{◌≡◌, arith, ap, ◌∙◌, length}
use Rattle.std.proofs.lemmas.List.{length-map}
use Rattle.cs_block.proofs.PutLemmas.{puts_on, put_all, gap_piece, gaps_end, rows_gone}
use Rattle.cs_block.proofs.encoding.with_last_gaps.Goals as goal

pub overflow_sub-docs : goal.overflow_sub-docs
overflow_sub-docs c = (gap_piece c.loop-i.before _ _ _ c.docs-docs.ensures c.loop-i-test.true c.loop-i.invariant.up).1

pub loop-i-preserved : goal.loop-i-preserved
loop-i-preserved c =
    let s = gap_piece c.loop-i.before _ _ _ c.docs-docs.ensures c.loop-i-test.true c.loop-i.invariant.up in
    let len : length c.docs-docs.result.now ≡ length c.args.rows.now.posts = ap length c.docs-docs.ensures ∙ length-map c.args.rows.now.posts _ in
    record {
      put = rw c.with_gap-out.ensures.items (puts_on _ _ _ _ _ _ s.0 c.loop-i.invariant.put);
      up = s.2;
      room = omega (arith, len, c.with_gap-out.ensures.few, c.with_gap-out.ensures.capacity, c.loop-i-test.true, c.loop-i.invariant.room);
    }

pub returns : goal.returns
returns c = put_all _ _ _ _ (gaps_end c.loop-i.before _ (rows_gone _ _ _ _ c.docs-docs.ensures (omega arith))) c.loop-i.invariant.put
