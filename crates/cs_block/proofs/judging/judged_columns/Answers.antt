use Rattle.std.proofs.Common.{sym, arith}
use Rattle.cs_block.proofs.ItemsLemmas.{judged_at_row, judged_at_code}
use Rattle.cs_block.proofs.judging.judged_columns.Goals as goal

pub overflow_cast-result : goal.overflow_cast-result
overflow_cast-result c = let e = c.in-Some.ensures.within in let f = c.requires.sized.gaps_len in let g = c.requires.sized.small in omega arith

pub returns-in-Some : goal.returns-in-Some
returns-in-Some c = judged_at_code c.args.weights c.args.head.now c.args.docs _ c.in-Some.at c.in-Some.ensures.value

pub returns : goal.returns
returns c = judged_at_row c.args.weights c.args.head.now c.args.docs _ c.broken_row.result (sym c.in_default.ensures.value) c.broken_row.ensures
