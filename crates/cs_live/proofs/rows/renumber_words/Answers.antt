use Rattle.std.proofs.Common.{◌<◌, length, get_or, sym, arith}
use Rattle.std.proofs.lemmas.List.{get_or_default}
use Rattle.std.proofs.lemmas.List.Edits.{map_over_more}
use Rattle.std.proofs.lemmas.List.Elements.{recursion_from_All}
use Rattle.cs_live.proofs.RowsInPlace.{own_words}
use Rattle.cs_live.proofs.rows.renumber_words.Goals as goal

pub returns-then-own : goal.returns-then-own
returns-then-own c =
    sym (own_words c.args.shift.now (c.requires.own c.if-own.true) c.args.words.now
    (recursion_from_All (λ w. w < length c.args.shift.now) c.args.words.now c.requires.words))

pub loop-i-preserved : goal.loop-i-preserved
loop-i-preserved c =
    let x = get_or c.loop-i.words c.loop-i.i 0 in
    map_over_more (λ w. get_or c.args.shift.now w 0) c.args.words.now c.loop-i.words c.loop-i.i x c.loop-i-test.true c.loop-i.invariant
    (get_or_default c.loop-i.words c.loop-i.i 0 x (omega (arith, c.loop-i-test.true)))
