use Rattle.std.proofs.Common.{◌∙◌, ap, arith, refl, subst, sym}
use Rattle.std.specs.Prelude.{All}
use Rattle.std.proofs.lemmas.List.Elements.{All-nil, All-push, All-weaker}
use Rattle.cs_base.specs.content.Orders.{AreSorted}
use Rattle.cs_cols.specs.declared.cols.Cols.{Cols}
use Rattle.cs_rows.specs.IndexReading.{AreWithin}
use Rattle.cs_rows.specs.Skipping.{lists_doc}
use Rattle.cs_rows.specs.Sources.{seen}
use Rattle.cs_rows.proofs.AlternativesLemmas.{flat, flat_more, lists_within}
use Rattle.cs_rows.proofs.InsideLemmas.{lists_begin_inside, lists_end_inside, lists_go_on_inside}
use Rattle.cs_rows.proofs.WalkLemmas.{list_begins, list_goes_on, list_stops}
use Rattle.cs_rows.proofs.inside.rows_inside.Goals as goal

pub loop-chain-init : goal.loop-chain-init
loop-chain-init g c =
    let i = seen (g.I.Source.view c.args.index.now) in
    record {
      walk = list_begins refl c.as_slice-chain-items.ensures;
      within = subst (All (λ (l : Cols). AreWithin i l.posts)) (sym c.new-lists.ensures.items) (All-nil (λ (l : Cols). AreWithin i l.posts));
      told = λ b is stands. lists_begin_inside ((g.I.Source.view c.args.index.now).stock b) (lists_doc c.args.hits.now) c.as_slice-chain-items.result.now
          (flat c.new-lists.result.items) (ap flat c.new-lists.ensures.items);
    }

pub loop-chain-preserved : goal.loop-chain-preserved
loop-chain-preserved g c =
    let i = seen (g.I.Source.view c.args.index.now) in
    let inv = c.loop-chain.invariant in
    let old = c.loop-chain.lists.items in
    let rows = c.in_ok-rows.rows in
    record {
      walk = list_goes_on inv.walk c.loop-chain-test.true c.chain-item.is c.in_ok-rows.ensures.store c.in_ok-rows.ensures.reads;
      within = subst (All (λ (l : Cols). AreWithin i l.posts)) (sym c.in_ok-add_list.ensures)
          (All-push (λ (l : Cols). AreWithin i l.posts) old rows inv.within c.in_ok-rows.ensures.within);
      told = λ b is stands. lists_go_on_inside ((g.I.Source.view c.args.index.now).stock b) (lists_doc c.args.hits.now) c.as_slice-chain-items.result.now
          c.loop-chain.chain-index c.chain-item.result c.loop-chain-test.true c.chain-item.is (flat old) rows.posts (flat c.add_list.new.lists.items)
          (inv.told b is stands) (c.in_ok-rows.ensures.told b (inv.walk.store.bytes ∙ is) stands) (ap flat c.in_ok-add_list.ensures ∙ flat_more old rows);
    }

pub united-requires : goal.united-requires
united-requires g c =
    All-weaker (λ (l : Cols). AreWithin (seen (g.I.Source.view c.args.index.now)) l.posts) (λ l. AreSorted l.posts) (λ l h. h.sorted)
    c.loop-chain.lists.items c.loop-chain.invariant.within

pub returns-clause-told : goal.returns-clause-told
returns-clause-told g c b is stands =
    lists_end_inside ((g.I.Source.view c.args.index.now).stock b) (lists_doc c.args.hits.now) c.as_slice-chain-items.result.now
    (c.requires.sieve.opened.source.told b stands).stocked c.args.part.now c.as_slice-chain-items.ensures c.loop-chain.chain-index
    (flat c.loop-chain.lists.items) c.in_ok-all.all.posts (omega (arith, c.loop-chain-test.false)) (c.loop-chain.invariant.told b is stands) c.in_ok-all.ensures

pub returns-clause-within : goal.returns-clause-within
returns-clause-within g c = lists_within (seen (g.I.Source.view c.args.index.now)) c.loop-chain.lists.items c.in_ok-all.all.posts
    c.loop-chain.invariant.within c.in_ok-all.ensures

pub returns-in_err-rows-clause-reads : goal.returns-in_err-rows-clause-reads
returns-in_err-rows-clause-reads g c = list_stops c.loop-chain.invariant.walk c.loop-chain-test.true c.chain-item.is c.rows_in_chain.ensures.reads

pub returns-in_err-add_list-clause-reads : goal.returns-in_err-add_list-clause-reads
returns-in_err-add_list-clause-reads g c = list_stops c.loop-chain.invariant.walk c.loop-chain-test.true c.chain-item.is c.rows_in_chain.ensures.reads
