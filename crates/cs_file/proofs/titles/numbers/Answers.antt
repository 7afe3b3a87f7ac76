use Rattle.cs_file.proofs.TitleStageLemmas.{numbers_on, numbers_end}
use Rattle.cs_file.proofs.titles.numbers.Goals as goal

pub loop-i-preserved : goal.loop-i-preserved
loop-i-preserved c = numbers_on c.args.bytes.now c.args.count c.loop-i.i c.number_at.result c.loop-i.numbers.items c.push.new.self.items c.loop-i-test.true
    c.number_at.ensures c.in_ok-push.ensures.items c.loop-i.invariant

pub returns : goal.returns
returns c = numbers_end c.args.bytes.now c.args.count c.loop-i.i c.loop-i.numbers.items c.loop-i-test.false c.loop-i.invariant
