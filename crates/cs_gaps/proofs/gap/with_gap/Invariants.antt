use Rattle.std.proofs.Common.{◌≡◌}
use Rattle.std.specs.Vec.{vec_len, vec_capacity}
use Rattle.cs_gaps.proofs.PassLemmas.{HasPushed}
use Rattle.cs_gaps.proofs.gap.with_gap.Given as goal

abbrev pub invariant-loop-rest : goal.invariant-loop-rest
invariant-loop-rest l = record {
  pushed : HasPushed l.n l.fn.out.items l.out.items (vec_len l.fn.out) (vec_len l.out) l.rest;
  capacity : vec_capacity l.out ≡ vec_capacity l.fn.out;
}

abbrev pub decreases-loop-rest : goal.decreases-loop-rest
decreases-loop-rest l = l.rest
