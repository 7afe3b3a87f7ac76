use Rattle.std.proofs.Common.{◌≡◌, length}
use Rattle.cs_base.specs.declared.content.doc.Base.TheVariants as base
use Rattle.cs_tables.specs.WordCounts.{HasCounted, is_chosen}
use Rattle.cs_rows.specs.Counting.{counted_rows}
use Rattle.cs_rows.specs.BestScores.{HasBestScores}
use Rattle.cs_rows.specs.IndexReading.{WhereStood, run_of}
use Rattle.cs_rows.specs.Skipping.{hit_blocks}
use Rattle.cs_rows.proofs.SkippingLemmas.{HitWalk}
use Rattle.cs_rows.proofs.blockwise.found_in_all.Given as goal

abbrev pub invariant-loop-k : goal.invariant-loop-k
invariant-loop-k g l = record {
  walk : HitWalk g.S.Store.bytes g.S.Store.lent g.S.Store.faults g.S.Store.reads (g.I.Source.view l.index).index l.fn.store l.store
      (hit_blocks base.All (g.I.Source.view l.index).index.heads l.first l.k);
  low : l.counts.low ≡ l.words.0;
  high : l.counts.high ≡ l.words.1;
  told : WhereStood (g.S.Store.bytes l.fn.store) (g.I.Source.view l.index).index
      (λ b. HasCounted (counted_rows ((g.I.Source.view l.index).blocks b) l.first l.k l.words.0 l.words.1 l.listed) l.counts);
  scored : WhereStood (g.S.Store.bytes l.fn.store) (g.I.Source.view l.index).index
      (λ b. HasBestScores (run_of ((g.I.Source.view l.index).blocks b) l.first l.k (is_chosen l.words.0 l.words.1 l.listed)) l.best.items);
  len : length l.best.items ≡ (g.I.Source.view l.index).docs;
}
