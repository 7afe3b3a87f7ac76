use Rattle.cs_block.proofs.ItemsLemmas.{columns_cut}
use Rattle.cs_block.proofs.columns.block_columns.Goals as goal

pub returns-clause-value : goal.returns-clause-value
returns-clause-value c = columns_cut c.args.head.now c.args.bytes.now _ _ _ _ _ _ c.split_at.ensures.front c.split_at.ensures.back c.split_at-2.ensures.front
    c.split_at-2.ensures.back c.split_at-3.ensures.front c.split_at-3.ensures.back
