use Rattle.std.proofs.Common.{◌≤◌, refl, subst, arith}
use Rattle.cs_engine.specs.declared.held.TheConstants.{MAX_HELD_BYTES}
use Rattle.cs_engine.proofs.RangeLemmas.{bytes_more}
use Rattle.cs_engine.proofs.held.many_within.Goals as goal

pub returns-then-bytes-gt-MAX_HELD_BYTES : goal.returns-then-bytes-gt-MAX_HELD_BYTES
returns-then-bytes-gt-MAX_HELD_BYTES c =
    let more = bytes_more c.args.ranges.now c.loop-i.i c.index-ranges-i.result c.loop-i-test.true c.index-ranges-i.is in
    let so_far = c.loop-i.invariant.bytes in
    let one = c.bytes_of_range-bytes.ensures.bytes in
    let over = c.if-bytes-gt-MAX_HELD_BYTES.true in
    let inside = c.loop-i-test.true in record {
      many = c.loop-i.i;
      within = omega (arith, inside);
      are = refl;
      room = subst (λ n. n ≤ MAX_HELD_BYTES) so_far c.loop-i.invariant.few;
      full = λ lt. omega (arith, more, so_far, one, over);
    }

pub loop-i-preserved : goal.loop-i-preserved
loop-i-preserved c =
    let more = bytes_more c.args.ranges.now c.loop-i.i c.index-ranges-i.result c.loop-i-test.true c.index-ranges-i.is in
    let so_far = c.loop-i.invariant.bytes in
    let one = c.bytes_of_range-bytes.ensures.bytes in
    let room = c.if-bytes-gt-MAX_HELD_BYTES.false in
    record { bytes = omega (arith, more, so_far, one); few = omega (arith, room) }
