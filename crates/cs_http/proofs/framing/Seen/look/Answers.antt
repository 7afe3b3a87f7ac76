use Rattle.std.proofs.Common.{length, ◌++◌, take, arith}
use Rattle.cs_http.proofs.LookLemmas.{found_of, look_found, placed_found}
use Rattle.cs_http.proofs.framing.Seen.look.Goals as goal

pub returns-in_default : goal.returns-in_default
returns-in_default c = record {
  found = λ before is.
      let here = c.look_at.ensures.found (before ++ take c.loop-byte.byte-index c.args.more.now) (c.loop-byte.invariant.seen before is) in
      look_found before c.args.more.now c.loop-byte.byte-index 0 c.look_at.result (omega (arith, c.loop-byte-test.true)) here (found_of c.look_at.result c.in_default.not-More);
  placed = placed_found c.args.self.count c.loop-byte.seen.count c.loop-byte.byte-index (length c.args.more.now) c.look_at.result c.loop-byte.invariant.counted (omega (arith, c.loop-byte-test.true)) (found_of c.look_at.result c.in_default.not-More) c.look_at.ensures.placed;
  few = c.look_at.ensures.few;
}
