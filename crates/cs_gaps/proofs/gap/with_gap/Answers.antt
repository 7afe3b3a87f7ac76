use Rattle.std.proofs.Common.{◌∙◌, arith, refl}
use Rattle.std.specs.Vec.{vec_len}
use Rattle.cs_gaps.proofs.PassLemmas.{push_begun, pushes, push_done}
use Rattle.cs_gaps.proofs.gap.with_gap.Goals as goal

pub loop-rest-init : goal.loop-rest-init
loop-rest-init c = record { pushed = push_begun c.args.n c.args.out.items (vec_len c.args.out) (omega arith); capacity = refl }

pub loop-rest-preserved : goal.loop-rest-preserved
loop-rest-preserved c = record {
  pushed = rw (c.push_reserved.ensures.items, c.push_reserved.ensures.len) (pushes c.args.n _ _ _ _ _ c.loop-rest-test.true c.loop-rest.invariant.pushed);
  capacity = c.push_reserved.ensures.capacity ∙ c.loop-rest.invariant.capacity;
}

pub returns-clause-items : goal.returns-clause-items
returns-clause-items c = c.push_reserved-2.ensures.items ∙ push_done c.args.n _ _ _ _ _ (omega arith) c.loop-rest.invariant.pushed
