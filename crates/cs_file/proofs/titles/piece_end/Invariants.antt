use Rattle.std.proofs.Common.{◌+◌, ◌-◌, ◌<◌, ◌≤◌, length, slice_index_or}
use Rattle.cs_file.proofs.titles.piece_end.Given as goal

abbrev pub invariant-loop-end : goal.invariant-loop-end
invariant-loop-end l = record {
  some : l.doc < l.end;
  within : l.end < length l.offsets;
  fits : l.doc + 1 < l.end → slice_index_or l.offsets l.end 0 ≤ l.room;
}

abbrev pub decreases-loop-end : goal.decreases-loop-end
decreases-loop-end l = length l.offsets - l.end
