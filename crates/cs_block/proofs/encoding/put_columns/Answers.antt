use Rattle.cs_block.proofs.PutLemmas.{block_put}
use Rattle.cs_block.proofs.RowsLemmas.{ascending, have_words}
use Rattle.cs_block.proofs.encoding.put_columns.Goals as goal

pub put_gaps-requires : goal.put_gaps-requires
put_gaps-requires c = ascending c.args.rows.now.posts c.requires.sorted

pub put_numbers-requires : goal.put_numbers-requires
put_numbers-requires c = have_words c.args.lo c.args.rows.now.posts c.requires.words

pub returns-clause-ok : goal.returns-clause-ok
returns-clause-ok c = block_put c.args.out.now.items c.put_gaps.new.out.items c.put_numbers.new.out.items
    c.put_scores.new.out.items c.args.rows.now.posts c.args.lo c.in_ok-put_gaps.ensures.ok c.in_ok-put_numbers.ensures.ok c.in_ok-put_scores.ensures.ok
