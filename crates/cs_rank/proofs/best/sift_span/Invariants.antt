use Rattle.std.proofs.Common.{◌≡◌, ◌+◌, ◌<◌, take}
use Rattle.std.specs.Vec.{vec_len, vec_capacity}
use Rattle.cs_rank.specs.Kept.{TakesAll}
use Rattle.cs_rank.proofs.best.sift_span.Given as goal

abbrev pub invariant-loop-s : goal.invariant-loop-s
invariant-loop-s l = record {
  takes : TakesAll (take l.s-index l.span) l.room l.fn.kept.items l.fn.worst l.kept.items l.last;
  few : vec_len l.kept < l.room + l.room;
  capacity : vec_capacity l.kept ≡ vec_capacity l.fn.kept;
}
