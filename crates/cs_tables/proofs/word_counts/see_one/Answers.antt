use Rattle.std.proofs.Common.{length-set}
use Rattle.cs_tables.proofs.WordCountsLemmas.{front_on, front_whole, one_marked, one_row}
use Rattle.cs_tables.proofs.word_counts.see_one.Goals as goal

pub loop-doc-preserved : goal.loop-doc-preserved
loop-doc-preserved c =
    let l = c.loop-doc in
    let marks = c.args.marks.now in
    let now = c.see_where.new.self in
    let seen = c.requires.seen in
    front_on c.args.low c.args.high c.args.rows l.doc-index marks (one_marked c.args.low c.args.high c.args.rows marks l.mark) _ c.loop-doc-test.true
    (one_row c.args.low c.args.high c.args.rows l.doc-index marks l.mark now seen.sized seen.even c.requires.one c.loop-doc-test.true c.see_where.ensures)
    l.invariant

pub returns : goal.returns
returns c =
    let l = c.loop-doc in
    let marks = c.args.marks.now in
    front_whole c.args.low c.args.high c.args.rows l.doc-index marks (one_marked c.args.low c.args.high c.args.rows marks l.mark) c.loop-doc-test.false
    l.invariant (length-set marks _ l.mark)
