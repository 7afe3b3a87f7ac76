use Rattle.std.proofs.Common.{subst}
use Rattle.cs_file.specs.Indexes.{IsIndex}
use Rattle.cs_rows.proofs.opened.IndexSource.range_of_word.Goals as goal

pub range_of_word-requires : goal.range_of_word-requires
range_of_word-requires c = record { index = subst IsIndex c.self.view_is c.self.invariant.index }
