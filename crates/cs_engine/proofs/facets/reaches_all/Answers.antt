use Rattle.std.proofs.Common.{◌≡◌, ◌∙◌, ap, arith, get_or, inl, inr, sym, subst, true}
use Rattle.std.proofs.lemmas.Bool.{cases_eq}
use Rattle.cs_rows.specs.Skipping.{may_hit, no_head}
use Rattle.cs_rows.proofs.SkippingLemmas.{reached}
use Rattle.cs_engine.proofs.facets.reaches_all.Goals as goal

pub head-requires : goal.head-requires
head-requires g c = omega (arith, c.blocks-first.ensures.within, c.loop-k-test.true)

pub loop-k-preserved : goal.loop-k-preserved
loop-k-preserved g c = λ j from below.
    let heads = (g.I.Source.view c.args.index.now).index.heads in
    let here = ap (may_hit c.args.base.now) (sym c.head.ensures) ∙ sym c.may_hit.ensures ∙ c.if-not-may_hit.false in
    elim (cases_eq j c.loop-k.k) [
      | inl same ↦ subst (λ n. may_hit c.args.base.now (get_or heads n no_head) ≡ true) (sym same) here
      | inr other ↦ c.loop-k.invariant j from (omega (arith, below, other))
    ]

pub returns : goal.returns
returns g c = λ yes.
    let up = c.blocks-first.ensures.ordered in
    let done : c.loop-k.k ≡ c.blocks-first.result.1 = omega (arith, c.loop-k-test.false, c.loop-k.auto.k-end, up) in
    reached (g.I.Source.view c.args.index.now) c.args.base.now c.args.words.0 c.args.words.1 c.blocks-first.result.0 c.blocks-first.result.1 c.blocks-first.ensures
    (λ j from below. c.loop-k.invariant j from (omega (arith, below, done)))
