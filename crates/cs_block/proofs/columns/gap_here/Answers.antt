use Rattle.cs_block.proofs.ItemsLemmas.{here_from, none_from}
use Rattle.cs_block.proofs.columns.gap_here.Goals as goal

pub returns : goal.returns
returns c = here_from c.args.gaps.now c.args.at c.in-Is.n c.in-Is.next (c.next_gap.ensures.found c.in-Is.n c.in-Is.next c.in-Is.is)

pub returns-in_default : goal.returns-in_default
returns-in_default c = none_from c.args.gaps.now c.args.at c.next_gap.result c.next_gap.ensures.accepts c.in_default.not-Is
