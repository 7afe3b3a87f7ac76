use Rattle.std.proofs.Common.{length, ap, sym, ◌∙◌}
use Rattle.cs_build.proofs.ColumnLemmas.{columns_many}
use Rattle.cs_build.proofs.row_columns.RowColumns.len.Goals as goal

pub returns : goal.returns
returns c = c.len.ensures ∙ sym (columns_many c.self.inside.words c.self.inside.numbers c.self.inside.form c.self.invariant) ∙ ap length c.self.view_is
