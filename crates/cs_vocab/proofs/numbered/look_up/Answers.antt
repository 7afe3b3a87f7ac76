use Rattle.std.proofs.Common.{slice_index, get_or, arith}
use Rattle.std.proofs.lemmas.List.{get_or_default}
use Rattle.std.proofs.lemmas.List.Edits.{map_over_more}
use Rattle.cs_vocab.proofs.numbered.look_up.Goals as goal

pub loop-i-preserved : goal.loop-i-preserved
loop-i-preserved c =
    let x = get_or c.loop-i.indices c.loop-i.i 0 in
    map_over_more (slice_index c.args.numbers.now) c.args.indices.now c.loop-i.indices c.loop-i.i x c.loop-i-test.true c.loop-i.invariant
    (get_or_default c.loop-i.indices c.loop-i.i 0 x (omega (arith, c.loop-i-test.true)))
