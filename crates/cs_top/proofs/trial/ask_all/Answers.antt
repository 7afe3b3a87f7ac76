use Rattle.std.proofs.Common.{◌≡◌, ◌+◌, ◌<◌, ◌++◌, ◌∷◌, [], ◌∙◌, ap, arith, length, map, subst, sym, take}
use Rattle.cs_top.specs.Trial.{HasAsked}
use Rattle.cs_top.proofs.TrialLemmas.{take_queries}
use Rattle.cs_top.proofs.trial.ask_all.Goals as goal

pub loop-request-preserved : goal.loop-request-preserved
loop-request-preserved c =
    let inv = c.loop-request.invariant in
    let one = c.in_ok-ask_one.ensures in
    let i = c.loop-request.request-index in
    let rs = c.args.requests.now in
    let r = c.request-item.result in
    let qs = map (λ x. x.query) (take i rs) in
    let low : i < length rs = omega arith in
    let more : map (λ x. x.query) (take (i + 1) rs) ≡ qs ++ r.query ∷ [] = take_queries rs i r low ∙ ap (λ x. qs ++ x.query ∷ []) (sym c.request-item.is) in
    record {
      so_far = λ start.
          subst (λ x. HasAsked c.args.store.now.bytes x c.ask_one.new.engine c.ask_one.new.counts) (sym more)
          (subst (λ b. HasAsked b (qs ++ r.query ∷ []) c.ask_one.new.engine c.ask_one.new.counts) (one.steady.bytes ∙ inv.steady.bytes)
          (one.asked qs (subst (λ b. HasAsked b qs c.loop-request.engine c.loop-request.counts) (sym inv.steady.bytes) (inv.so_far start))));
      few = one.few i inv.few;
      sizes = one.sizes ∙ inv.sizes;
      steady = record { index = one.steady.index ∙ inv.steady.index; bytes = one.steady.bytes ∙ inv.steady.bytes };
    }
