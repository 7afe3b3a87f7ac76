-- The columns that the code passes on, as the columns that the rules speak of.
--
--   seen_columns c    the bytes of each column
use Rattle.cs_model_index.specs.BlockRules.{BlockColumns}
use Rattle.cs_block.specs.declared.columns.CutColumns.{CutColumns as Cut}

-- column by column
abbrev pub seen_columns : Cut → BlockColumns
seen_columns c = record { gaps = c.gaps.now; words = c.words.now; positions = c.positions.now; scores = c.scores.now }
