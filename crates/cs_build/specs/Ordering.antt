-- Rows while they are brought into order.
--
--   row_of_spot s     the row of a spot
use Rattle.cs_base.specs.declared.content.doc.Row.{Row}
use Rattle.cs_build.specs.declared.ordering.Spot.{Spot}

-- the same document, word, position and score
abbrev pub row_of_spot : Spot → Row
row_of_spot s = record { doc = s.doc; word = s.word; pos = s.pos; score = s.score }
