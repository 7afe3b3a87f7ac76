use Rattle.std.proofs.Common.{◌++◌, ap, ◌∙◌, List, ℕ}
use Rattle.cs_model_index.specs.Blocks.{score_column}
use Rattle.cs_block.proofs.encoding.put_scores.Goals as goal

pub returns-clause-ok : goal.returns-clause-ok
unfolding score_column
returns-clause-ok c = c.in_ok-extend_from_slice.ensures.items ∙ ap (λ (x : List ℕ). c.args.out.now.items ++ x) c.scores.ensures
