use Rattle.std.proofs.Common.{◌≡◌, ◌+◌, ◌-◌, ◌<◌, ◌≤◌, ◌++◌, length, take}
use Rattle.std.specs.Vec.{vec_len, vec_capacity}
use Rattle.cs_rank.specs.Kept.{HasBest}
use Rattle.cs_rank.proofs.best.sift.Given as goal

abbrev pub invariant-loop-from : goal.invariant-loop-from
invariant-loop-from l = record {
  best : HasBest (l.fn.kept.items ++ take l.from l.scored) l.room l.kept.items l.worst;
  within : l.from ≤ length l.scored;
  few : vec_len l.kept < l.room + l.room;
  capacity : vec_capacity l.kept ≡ vec_capacity l.fn.kept;
}

abbrev pub decreases-loop-from : goal.decreases-loop-from
decreases-loop-from l = length l.scored - l.from
