use Rattle.std.proofs.Common.{arith}
use Rattle.cs_meet.proofs.Merged.{rows_more}
use Rattle.cs_meet.proofs.union.count_rows.Goals as goal

pub loop-list-preserved : goal.loop-list-preserved
loop-list-preserved c =
    let more = rows_more c.args.lists.now c.loop-list.list-index c.list-item.result c.loop-list-test.true c.list-item.is in
    omega (arith, more, c.loop-list.invariant, c.len.ensures, c.in-Some.ensures)
