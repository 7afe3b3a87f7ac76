use Rattle.std.proofs.Common.{arith, ◌-◌, ◌∙◌, ap, slice_index_or, slice_set}
use Rattle.std.proofs.lemmas.List.{get_or_default}
use Rattle.std.proofs.lemmas.List.Edits.{map_over_more}
use Rattle.cs_base.proofs.outside.failing.count_call.Goals as goal

pub loop-number-preserved : goal.loop-number-preserved
loop-number-preserved c =
    let items = c.loop-number.number-items in
    let i = c.loop-number.number-index in
    let x = slice_index_or items i 0 in
    ap (slice_set items i) c.saturating_sub.ensures
    ∙ map_over_more (λ k. k - 1) c.args.calls.now.items items i x (omega arith) c.loop-number.invariant (get_or_default items i 0 x (omega arith))
