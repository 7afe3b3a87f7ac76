use Rattle.std.proofs.Common.{◌++◌, ap, ◌∙◌}
use Rattle.cs_block.specs.ColumnsView.{seen_columns}
use Rattle.cs_block.proofs.BlockScoresLemmas.{scores_all}
use Rattle.cs_block.proofs.scores.read_scores.Goals as goal

pub returns-clause-ok : goal.returns-clause-ok
returns-clause-ok c = λ e.
    let columns = seen_columns c.block_columns-columns.result in
    let put = c.extend_from_slice.new.self.items in
    let same = c.in_ok-extend_from_slice.ensures.items ∙ ap (λ xs. xs ++ columns.scores) c.truncate.ensures.items in
    let cut = c.block_columns-columns.ensures in
    scores_all c.args.weights c.args.head.now c.args.bytes.now columns put cut.value cut.sized.scores_len same (c.are_scores.ensures e)
