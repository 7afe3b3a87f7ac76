use Rattle.std.proofs.Common.{◌≡◌, arith, ap, ◌∙◌, append_assoc, length}
use Rattle.std.specs.Prelude.{slice_index_or}
use Rattle.std.specs.Int.{w32, to_be_bytes}
use Rattle.std.proofs.lemmas.List.{length-map}
use Rattle.cs_block.proofs.PutLemmas.{puts_on, put_all, position_piece, positions_end, rows_gone}
use Rattle.cs_block.proofs.encoding.with_positions.Goals as goal

pub loop-place-preserved : goal.loop-place-preserved
loop-place-preserved c =
    let s = position_piece _ _ _ c.places-place-items.ensures c.loop-place-test.true in
    let len : length c.places-place-items.result.now ≡ length c.args.rows.now.posts = ap length c.places-place-items.ensures ∙ length-map c.args.rows.now.posts _ in
    record {
      put = rw (c.push_reserved-in-loop-place-3.ensures.items, c.push_reserved-in-loop-place-2.ensures.items, c.push_reserved-in-loop-place.ensures.items, c.push_reserved.ensures.items, c.to_be_bytes.ensures, append_assoc, append_assoc, append_assoc)
          (puts_on _ _ _ (to_be_bytes w32 (slice_index_or c.places-place-items.result.now c.loop-place.place-index 0)) _ _ s c.loop-place.invariant.put);
      room = omega (arith, len, c.push_reserved-in-loop-place-3.ensures.len, c.push_reserved-in-loop-place-3.ensures.capacity, c.loop-place-test.true, c.loop-place.invariant.room);
    }

pub returns : goal.returns
returns c = put_all _ _ _ _ (positions_end _ (rows_gone _ _ _ _ c.places-place-items.ensures (omega arith))) c.loop-place.invariant.put
