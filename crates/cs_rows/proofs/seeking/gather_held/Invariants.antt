use Rattle.std.proofs.Common.{◌≡◌, ℕ, List, Option, Some}
use Rattle.std.specs.List.{All}
use Rattle.std.specs.Option.{ForSome}
use Rattle.cs_file.specs.BlockBytes.{FitsBlock, HasFileBytes}
use Rattle.cs_tables.specs.WordCounts.{is_chosen}
use Rattle.cs_rows.specs.Packing.{HasKeys}
use Rattle.cs_rows.specs.Skipping.{hit_blocks}
use Rattle.cs_rows.proofs.SkippingLemmas.{HitWalk}
use Rattle.cs_rows.proofs.seeking.gather_held.Given as goal

abbrev pub invariant-loop-k : goal.invariant-loop-k
invariant-loop-k g l = record {
  walk : HitWalk g.S.Store.bytes g.S.Store.lent g.S.Store.faults g.S.Store.reads (g.I.Source.view l.index).index l.fn.store l.store
      (hit_blocks l.hits (g.I.Source.view l.index).index.heads l.first l.k);
  keys : (told : Option (List ℕ)) → ForSome told (λ b. (g.S.Store.bytes l.fn.store ≡ Some b) × All (HasFileBytes b) l.fn.blocks.blocks.items)
      → HasKeys (g.I.Source.view l.index) told l.first l.k (is_chosen l.words.0 l.words.1 l.listed) l.keys.items;
  fit : All (FitsBlock (g.I.Source.view l.index).index) l.blocks.blocks.items;
  file : ForSome (g.S.Store.bytes l.fn.store) (λ b. All (HasFileBytes b) l.fn.blocks.blocks.items → All (HasFileBytes b) l.blocks.blocks.items);
}
