use Rattle.std.proofs.Common.{get_or, arith}
use Rattle.cs_base.specs.declared.content.doc.Scored.{Scored}
use Rattle.cs_rank.specs.Kept.{Takes}
use Rattle.cs_rank.proofs.KeptLemmas.{all_let_go, takes_more}
use Rattle.cs_rank.proofs.best.sift_span.Goals as goal
use Rattle.cs_rank.proofs.best.sift_span.Goals.{then-not-is_beaten, else-not-is_beaten}

pub returns-then-are_beaten-clause-takes : goal.returns-then-are_beaten-clause-takes
returns-then-are_beaten-clause-takes c =
    λ seen h. all_let_go c.args.room c.args.span.now seen c.args.kept.now.items c.args.worst (c.are_beaten.ensures c.if-are_beaten.true) h

pub loop-s-preserved : goal.loop-s-preserved
loop-s-preserved c =
    let blank : Scored = record { doc = 0; score = 0 } in
    let s = get_or c.args.span.now c.loop-s.s-index blank in
    let one : Takes s c.args.room c.loop-s.kept.items c.loop-s.last c.if-not-is_beaten.kept.items c.if-not-is_beaten.last =
    elim c.if-not-is_beaten.branch [
      | then-not-is_beaten w ↦ rw w.kept-is (rw w.last-is w.keep-last.ensures.takes)
      | else-not-is_beaten w ↦ rw w.kept-is (rw w.last-is (c.is_beaten.ensures.let_go w.if-not-is_beaten.false c.args.room c.loop-s.kept.items))
    ] in
    record {
      takes = takes_more c.args.room c.loop-s.s-index c.args.span.now c.args.kept.now.items c.loop-s.kept.items c.if-not-is_beaten.kept.items c.args.worst c.loop-s.last c.if-not-is_beaten.last blank
          c.loop-s-test.true c.loop-s.invariant.takes one;
      few = elim c.if-not-is_beaten.branch [
        | then-not-is_beaten w ↦ rw w.kept-is w.keep-last.ensures.few
        | else-not-is_beaten w ↦ rw w.kept-is c.loop-s.invariant.few
      ];
      capacity = elim c.if-not-is_beaten.branch [
        | then-not-is_beaten w ↦ (let same = w.keep-last.ensures.capacity in let before = c.loop-s.invariant.capacity in rw w.kept-is (omega (arith, same, before)))
        | else-not-is_beaten w ↦ rw w.kept-is c.loop-s.invariant.capacity
      ];
    }
