use Rattle.std.proofs.Common.{◌≡◌, [], map, take}
use Rattle.cs_tables.specs.WordCounts.{AreCountable, HasCounted}
use Rattle.cs_base.specs.declared.content.scores.Weights.{Weights}
use Rattle.cs_rows.specs.Packing.{post_of_key}
use Rattle.cs_rows.proofs.counting.count_keys.Given as goal

abbrev pub invariant-loop-key : goal.invariant-loop-key
invariant-loop-key l = record {
  counted : (w : Weights) → AreCountable (map (post_of_key w) l.keys) → HasCounted [] l.fn.counts
      → HasCounted (map (post_of_key w) (take l.key-index l.keys)) l.counts;
  low : l.counts.low ≡ l.fn.counts.low;
  high : l.counts.high ≡ l.fn.counts.high;
}
