use Rattle.std.proofs.Common.{◌+◌, arith}
use Rattle.cs_rank.proofs.KeptLemmas.{span_taken}
use Rattle.cs_rank.proofs.best.sift.Goals as goal

pub loop-from-preserved : goal.loop-from-preserved
loop-from-preserved c = record {
  best = span_taken c.args.room c.loop-from.from (c.loop-from.from + c.min.result) c.args.kept.now.items c.args.scored.now c.loop-from.kept.items c.sift_span-worst.new.kept.items
      c.loop-from.worst c.sift_span-worst.result (omega arith) c.loop-from.invariant.best c.sift_span-worst.ensures.takes;
  within = omega arith;
  few = omega arith;
  capacity = omega arith;
}
