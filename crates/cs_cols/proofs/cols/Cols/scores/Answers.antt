use Rattle.std.proofs.Common.{◌∙◌, sym}
use Rattle.cs_cols.proofs.Columns.{columns}
use Rattle.cs_cols.proofs.cols.Cols.scores.Goals as goal

pub returns : goal.returns
returns c = rw (← c.self.view_is) (c.as_slice.ensures.value ∙ sym (columns _ _ _ _ c.self.invariant.0).3)
