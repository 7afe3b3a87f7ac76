use Rattle.std.proofs.Common.{◌≡◌, Some, length}
use Rattle.std.specs.List.{All}
use Rattle.std.specs.Option.{ForSome}
use Rattle.cs_file.specs.BlockBytes.{FitsBlock, HasFileBytes}
use Rattle.cs_tables.specs.WordCounts.{HasCounted, is_chosen}
use Rattle.cs_rows.specs.Counting.{counted_rows}
use Rattle.cs_rows.specs.BestScores.{HasBestScores}
use Rattle.cs_rows.specs.GatheredRows.{HasGathered}
use Rattle.cs_rows.specs.IndexReading.{WhereStood, run_of}
use Rattle.cs_rows.specs.Skipping.{hit_blocks}
use Rattle.cs_rows.proofs.SkippingLemmas.{HitWalk}
use Rattle.cs_rows.proofs.blockwise.found_behind.Given as goal

abbrev pub invariant-loop-k : goal.invariant-loop-k
invariant-loop-k g l = record {
  walk : HitWalk g.S.Store.bytes g.S.Store.lent g.S.Store.faults g.S.Store.reads (g.I.Source.view l.index).index l.fn.store l.store
      (hit_blocks l.hits (g.I.Source.view l.index).index.heads l.gathered.next l.k);
  low : l.counts.low ≡ l.words.0;
  high : l.counts.high ≡ l.words.1;
  told : WhereStood (g.S.Store.bytes l.fn.store) (g.I.Source.view l.index).index
      (λ b. HasGathered (g.I.Source.view l.index) (Some b) l.words.0 l.words.1 l.listed l.gathered
      → All (HasFileBytes b) l.fn.blocks.blocks.items → HasCounted (counted_rows ((g.I.Source.view l.index).blocks b) l.gathered.first l.k l.words.0 l.words.1 l.listed) l.counts);
  scored : WhereStood (g.S.Store.bytes l.fn.store) (g.I.Source.view l.index).index
      (λ b. HasGathered (g.I.Source.view l.index) (Some b) l.words.0 l.words.1 l.listed l.gathered
      → All (HasFileBytes b) l.fn.blocks.blocks.items → HasBestScores (run_of ((g.I.Source.view l.index).blocks b) l.gathered.first l.k (is_chosen l.words.0 l.words.1 l.listed)) l.best.items);
  len : length l.best.items ≡ (g.I.Source.view l.index).docs;
  fit : All (FitsBlock (g.I.Source.view l.index).index) l.blocks.blocks.items;
  file : ForSome (g.S.Store.bytes l.fn.store) (λ b. All (HasFileBytes b) l.fn.blocks.blocks.items → All (HasFileBytes b) l.blocks.blocks.items);
}
