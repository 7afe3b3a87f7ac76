use Rattle.std.proofs.Common.{◌≡◌, ◌++◌, List, take}
use Rattle.std.specs.Prelude.{filter}
use Rattle.cs_base.specs.declared.content.doc.Post.{Post}
use Rattle.cs_tables.specs.WordCounts.{AreCountable, HasCounted, is_chosen}
use Rattle.cs_rows.proofs.chosen.count_chosen.Given as goal

abbrev pub invariant-loop-row : goal.invariant-loop-row
invariant-loop-row l = record {
  counted : (seen : List Post) → AreCountable (seen ++ filter (is_chosen l.words.0 l.words.1 l.listed) l.rows) → HasCounted seen l.fn.counts
      → HasCounted (seen ++ filter (is_chosen l.words.0 l.words.1 l.listed) (take l.row-index l.rows)) l.counts;
  low : l.counts.low ≡ l.fn.counts.low;
  high : l.counts.high ≡ l.fn.counts.high;
}
