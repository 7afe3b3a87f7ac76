use Rattle.std.proofs.Common.{◌≤◌, ◌<◌, ℕ, get_or}
use Rattle.cs_base.specs.declared.content.limits.TheConstants.{MAX_WORDS}
use Rattle.cs_tables.proofs.counts.word_range.Given as goal

abbrev pub invariant-loop-word : goal.invariant-loop-word
invariant-loop-word l = record {
  above : (k : ℕ) → k < l.word-index → l.low ≤ get_or l.words k 0;
  below : (k : ℕ) → k < l.word-index → get_or l.words k 0 < l.end;
  low : l.low ≤ MAX_WORDS;
  end : l.end ≤ MAX_WORDS;
}
