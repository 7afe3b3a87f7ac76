use Rattle.std.proofs.Common.{◌∙◌, ◌≡◌, ◌⊎◌, ◌++◌, true, List, map, ap, refl, subst, sym, arith}
use Rattle.std.specs.Prelude.{All}
use Rattle.cs_model.specs.Replies.{FacetShown}
use Rattle.cs_rows.specs.Stocked.{facet_at}
use Rattle.cs_query.specs.RequestView.{asked}
use Rattle.cs_rows.specs.Skipping.{bare_facet, lists_none}
use Rattle.cs_engine.specs.Asking.{HasNoWord}
use Rattle.cs_engine.proofs.AnsweringLemmas.{shown_more}
use Rattle.cs_engine.proofs.FacetTables.{bare_told}
use Rattle.cs_rows.proofs.WalkLemmas.{list_begins, list_goes_on, list_stops}
use Rattle.cs_engine.proofs.show.shown_facets.Goals as goal

pub returns-then-branch-clause-told : goal.returns-then-branch-clause-told
returns-then-branch-clause-told g c b is stands held =
    let v = g.I.Source.view c.args.over.index.now in
    let names = (asked c.args.over.request.now).facets in
    let bare = c.in_ok-are_bare.ensures c.if-branch.true in
    c.in_ok-bare.ensures ∙ ap (map bare_facet) c.as_slice-then-branch.ensures
    ∙ bare_told b v stands c.requires.opened.source c.args.base.now c.args.over.request.now.completions names
    (subst (λ ns. (lists_none c.args.base.now ≡ true) ⊎ All (HasNoWord v.words) ns) c.as_slice-2.ensures bare)

pub loop-name-init : goal.loop-name-init
loop-name-init g c = record {
  walk = list_begins refl c.as_slice-name-items.ensures;
  held = c.requires.held;
  good = λ b is stands held. held;
  told = λ b is stands held.
      let f = facet_at ((g.I.Source.view c.args.over.index.now).stock b) c.args.base.now c.args.over.request.now.completions in
      ap (λ (s : List FacetShown). s ++ map f c.as_slice-name-items.result.now) (sym c.new-shown.ensures);
}

pub loop-name-preserved : goal.loop-name-preserved
loop-name-preserved g c =
    let inv = c.loop-name.invariant in
    let items = c.as_slice-name-items.result.now in
    record {
      walk = list_goes_on inv.walk c.loop-name-test.true c.name-item.is c.in_ok-facet.ensures.store c.in_ok-facet.ensures.reads;
      held = c.in_ok-facet.ensures.held;
      good = λ b is stands held. c.in_ok-facet.ensures.good b (inv.walk.store.bytes ∙ is) stands (inv.good b is stands held);
      told = λ b is stands held.
          let f = facet_at ((g.I.Source.view c.args.over.index.now).stock b) c.args.base.now c.args.over.request.now.completions in
          shown_more f _ c.loop-name.shown c.push.new.self items c.loop-name.name-index c.name-item.result c.in_ok-facet.facet c.loop-name-test.true
          (c.in_ok-facet.ensures.told b (inv.walk.store.bytes ∙ is) stands (inv.good b is stands held) ∙ ap f c.name-item.is)
          c.in_ok-push.ensures.ok (inv.told b is stands held);
    }

pub returns-clause-reads : goal.returns-clause-reads
returns-clause-reads g c = let walk = c.loop-name.invariant.walk in
    record { later = walk.later; within = (let few = walk.reads in omega (arith, few)) }

pub returns-in_err-push-clause-reads : goal.returns-in_err-push-clause-reads
returns-in_err-push-clause-reads g c =
    list_stops c.loop-name.invariant.walk c.loop-name-test.true c.name-item.is c.shown_facet.ensures.reads
