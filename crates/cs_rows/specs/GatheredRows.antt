-- Rows that are gathered block by block, until they are too many.
--
-- Source: this engine's own.
--
--   HasGathered v told lo hi listed g     numbers of the rows of words from lo up to hi in listed documents, in the first of the blocks
--                          that hold such a word
use Rattle.std.specs.Prelude.{ℕ, ◌≤◌, Bool, List, Option}
use Rattle.cs_file.specs.Indexes.{AreMet}
use Rattle.cs_tables.specs.WordCounts.{is_chosen}
use Rattle.cs_rows.specs.Packing.{HasKeys}
use Rattle.cs_rows.specs.Sources.{SourceView}
use Rattle.cs_rows.specs.declared.gathering.GatheredKeys.{GatheredKeys}

-- of none of the blocks, or of all; rows in memory aren't among them
pub record HasGathered (v : SourceView) (told : Option (List ℕ)) (lo hi : ℕ) (listed : List Bool) (g : GatheredKeys) : Type 0 where
  pub met : AreMet v.index.heads (v.before lo) (v.before hi) g.first g.last
  pub onward : g.first ≤ g.next
  pub upto : g.next ≤ g.last
  pub keys : HasKeys v told g.first g.next (is_chosen lo hi listed) g.keys.items
