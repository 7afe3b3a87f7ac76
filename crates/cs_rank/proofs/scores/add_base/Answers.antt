use Rattle.std.proofs.Common.{◌+◌, ap, arith, get_or}
use Rattle.cs_base.specs.declared.content.doc.Scored.{Scored}
use Rattle.cs_base.specs.declared.content.doc.Base.TheVariants.{Listed}
use Rattle.cs_rank.proofs.GroupsLemmas.{added}
use Rattle.cs_rank.proofs.Lookups.{passed_more}
use Rattle.cs_rank.proofs.scores.add_base.Goals as goal

pub loop-h-preserved : goal.loop-h-preserved
loop-h-preserved c =
    let blank : Scored = record { doc = 0; score = 0 } in
    record {
      few = omega arith;
      room = omega arith;
      done = added (Listed c.args.listed.now) c.args.best.now c.loop-h.scored.items c.push_reserved.new.self.items c.loop-h.h-index blank _ c.loop-h.invariant.done (omega arith) c.push_reserved.ensures.items
          (let h = get_or c.args.best.now c.loop-h.h-index blank in ap (λ n. let r : Scored = record { doc = h.doc; score = n + h.score } in r) c.score_at-base.ensures.value);
      passed = λ k e up lt. passed_more c.skip_below-place.result c.loop-h.h-index k c.args.listed.now c.args.best.now blank e c.requires.best_sorted (omega arith) lt c.skip_below-place.ensures.passed;
    }
