use Rattle.std.proofs.Common.{◌-◌, ◌<◌, arith}
use Rattle.cs_block.proofs.PutLemmas.{four_short}
use Rattle.cs_block.proofs.encoding.with_four_gaps.Goals as goal

pub returns-then-first-second-clause-items : goal.returns-then-first-second-clause-items
returns-then-first-second-clause-items c =
    let short : (c.args.a - c.args.before < 128) × (c.args.b - c.args.a < 128) × (c.args.c - c.args.b < 128) × (c.args.d - c.args.c < 128) =
    (grind (arith, c.if-first-second.true), grind (arith, c.if-first-second.true), grind (arith, c.if-first-second.true), grind (arith, c.if-first-second.true)) in
    four_short _ _ _ _ _ _ _ _ _ short c.push_reserved.ensures.items c.push_reserved-then-first-second.ensures.items c.push_reserved-then-first-second-2.ensures.items
    c.push_reserved-then-first-second-3.ensures.items
