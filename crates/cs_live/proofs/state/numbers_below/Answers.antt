use Rattle.std.proofs.Common.{◌≡◌, ◌∙◌, ◌+◌, ◌∷◌, ◌++◌, [], ap, arith, sym}
use Rattle.std.specs.List.{range_with_len}
use Rattle.cs_live.proofs.BeginningLemmas.{range_more}
use Rattle.cs_live.proofs.state.numbers_below.Goals as goal

pub loop-i-preserved : goal.loop-i-preserved
loop-i-preserved c =
    c.in_ok-push.ensures.items ∙ ap (λ ns. ns ++ c.loop-i.i ∷ []) c.loop-i.invariant
    ∙ ap (λ n. range_with_len 0 c.loop-i.i ++ n ∷ []) (let e : c.loop-i.i ≡ 0 + c.loop-i.i = omega arith in e) ∙ sym (range_more 0 c.loop-i.i)
