use Rattle.std.proofs.Common.{◌++◌, List, map, get_or, ap, refl, sym, ◌∙◌, arith}
use Rattle.std.proofs.lemmas.List.{get_or_default}
use Rattle.cs_base.specs.declared.content.doc.Scored.{Scored}
use Rattle.cs_model.specs.Replies.{HitShown}
use Rattle.cs_model.specs.Requests.{hit_shown}
use Rattle.cs_rows.specs.Stocked.{corpus_in}
use Rattle.cs_engine.proofs.AnsweringLemmas.{docs_more, shown_more, title_told}
use Rattle.cs_engine.proofs.TitlesRead.{filed_sum}
use Rattle.cs_rows.proofs.WalkLemmas.{fails_behind, hands_on, list_begins, list_goes_on, list_stops, read_fails}
use Rattle.cs_engine.proofs.show.shown_hits.Goals as goal

abbrev none : Scored
none = record { doc = 0; score = 0 }

pub returns-in_err-title-clause-store : goal.returns-in_err-title-clause-store
returns-in_err-title-clause-store g c =
    hands_on c.from_residual.result c.from_residual.ensures.1
    (fails_behind c.loop-hit.invariant.walk.store
    (read_fails c.in_err-title.ensures.store))

pub returns-in_err-title-clause-reads : goal.returns-in_err-title-clause-reads
returns-in_err-title-clause-reads g c =
    let i = c.loop-hit.hit-index in
    let hits = c.args.hits.now in
    let h = get_or hits i none in
    list_stops c.loop-hit.invariant.walk c.loop-hit-test.true {x = h} (get_or_default hits i none h c.loop-hit-test.true) c.in_err-title.ensures.reads

pub loop-hit-init : goal.loop-hit-init
loop-hit-init g c =
    let v = g.I.Source.view c.args.index.now in
    record {
      walk = list_begins (sym (filed_sum v.index.docs c.args.hits.now)) refl;
      docs = ap (λ (s : List HitShown). map (λ x. x.doc) s ++ map (λ h. h.doc) c.args.hits.now) (sym c.new-shown.ensures);
      told = λ b is stands.
          let f = hit_shown (corpus_in (v.stock b)) in ap (λ (s : List HitShown). s ++ map f c.args.hits.now) (sym c.new-shown.ensures);
    }

pub loop-hit-preserved : goal.loop-hit-preserved
loop-hit-preserved g c =
    let inv = c.loop-hit.invariant in
    let call = c.in_ok-title.ensures in
    let i = c.loop-hit.hit-index in
    let hits = c.args.hits.now in
    let h : Scored = get_or hits i none in
    record {
      walk = list_goes_on inv.walk c.loop-hit-test.true {x = h} (get_or_default hits i none h c.loop-hit-test.true) call.store call.reads;
      docs = docs_more c.loop-hit.shown c.push.new.self hits i none _ c.loop-hit-test.true refl c.in_ok-push.ensures.ok inv.docs;
      told = λ b is stands.
          shown_more (hit_shown (corpus_in ((g.I.Source.view c.args.index.now).stock b))) _ c.loop-hit.shown c.push.new.self hits i none _
          c.loop-hit-test.true
          (title_told b (g.I.Source.view c.args.index.now) stands c.requires.opened.source h c.in_ok-title.title
          (c.in_ok-title.ensures.stood b (inv.walk.store.bytes ∙ is) stands))
          c.in_ok-push.ensures.ok (inv.told b is stands);
    }

pub returns-clause-reads : goal.returns-clause-reads
returns-clause-reads g c = let walk = c.loop-hit.invariant.walk in
    record { later = walk.later; within = (let few = walk.reads in omega (arith, few)) }
