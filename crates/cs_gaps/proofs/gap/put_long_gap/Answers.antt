use Rattle.std.proofs.Common.{refl, arith, ap, ◌∙◌, List, ℕ, ◌++◌}
use Rattle.cs_gaps.proofs.PassLemmas.{put_begun, puts, put_done}
use Rattle.cs_gaps.proofs.gap.put_long_gap.Goals as goal

pub loop-left-init : goal.loop-left-init
loop-left-init c = put_begun c.args.n _ (omega arith) (refl)

pub loop-left-preserved : goal.loop-left-preserved
loop-left-preserved c = puts c.args.n _ _ _ c.loop-left-test.true c.loop-left.invariant

pub returns-clause-ok : goal.returns-clause-ok
returns-clause-ok c = let e = c.in_ok-extend_from_slice.ensures.items in e ∙ ap (λ (x : List ℕ). c.args.out.now.items ++ x) (put_done c.args.n _ c.loop-left.len c.loop-left.left (omega arith) c.loop-left.invariant)
