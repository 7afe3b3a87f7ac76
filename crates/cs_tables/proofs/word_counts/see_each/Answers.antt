use Rattle.std.proofs.Common.{◌∙◌, length-set, get_or, arith}
use Rattle.cs_tables.proofs.WordCountsLemmas.{front_on, front_whole, row_where}
use Rattle.cs_tables.proofs.word_counts.see_each.Goals as goal

pub loop-i-preserved : goal.loop-i-preserved
loop-i-preserved c =
    let l = c.loop-i in
    let rows = c.args.rows in
    let now = c.see_where.new.self in
    let own = c.requires.own l.i 0 (omega (arith, c.requires.seen.even, c.loop-i-test.true)) in
    record {
      counted = front_on c.args.low c.args.high rows l.i c.args.marks.now l.marks _ c.loop-i-test.true
          (row_where c.args.low c.args.high rows.listed.now l.marks (get_or rows.docs.now l.i 0) (get_or rows.words.now l.i 0) now
          (omega (arith, c.requires.seen.sized, l.invariant.sized)) own.0 own.1 c.see_where.ensures)
          l.invariant.counted;
      sized = length-set l.marks _ now ∙ l.invariant.sized;
    }

pub returns : goal.returns
returns c = front_whole c.args.low c.args.high c.args.rows c.loop-i.i c.args.marks.now c.loop-i.marks c.loop-i-test.false c.loop-i.invariant.counted c.loop-i.invariant.sized
