use Rattle.std.proofs.Common.{◌≡◌, ℕ, ◌+◌, ◌<◌, length, take, slice_index_or}
use Rattle.cs_tables.specs.declared.counts.Mark.{Mark}
use Rattle.cs_tables.specs.Marks.{mark_of}
use Rattle.cs_tables.proofs.counts.counts_by_word.Given as goal

abbrev pub invariant-loop-i : goal.invariant-loop-i
invariant-loop-i l = record {
  long : length l.marks.items ≡ l.many;
  each : (k : ℕ) (d : Mark) → k < l.many → slice_index_or l.marks.items k d ≡ mark_of (l.low + k) (take l.i l.rows.posts);
}
