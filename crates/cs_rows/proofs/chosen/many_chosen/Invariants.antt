use Rattle.std.proofs.Common.{◌≡◌, ◌≤◌, take, length}
use Rattle.std.specs.Prelude.{filter}
use Rattle.cs_tables.specs.WordCounts.{is_chosen}
use Rattle.cs_rows.proofs.chosen.many_chosen.Given as goal

abbrev pub invariant-loop-row : goal.invariant-loop-row
invariant-loop-row l = record {
  counted : l.many ≡ length (filter (is_chosen l.words.0 l.words.1 l.listed) (take l.row-index l.rows));
  small : l.many ≤ l.row-index;
}
