use Rattle.std.proofs.Common.{◌≡◌, ◌++◌, map, drop}
use Rattle.std.specs.Prelude.{filter}
use Rattle.cs_tables.specs.WordCounts.{is_chosen}
use Rattle.cs_rows.specs.Packing.{key_of}
use Rattle.cs_rows.proofs.chosen.pack_chosen.Given as goal

abbrev pub invariant-loop-row : goal.invariant-loop-row
invariant-loop-row l = l.keys.items ++ map (key_of l.weights) (filter (is_chosen l.words.0 l.words.1 l.listed) (drop l.row-index l.rows))
    ≡ l.fn.keys.items ++ map (key_of l.weights) (filter (is_chosen l.words.0 l.words.1 l.listed) l.rows)
