use Rattle.std.proofs.Common.{◌∙◌, ap, arith, map, sym}
use Rattle.std.specs.Prelude.{sum}
use Rattle.cs_base.specs.declared.content.query.Linked.{out-Linked}
use Rattle.cs_rows.specs.IndexReading.{division}
use Rattle.cs_rows.specs.Skipping.{hit_of_linked, lists_doc}
use Rattle.cs_rows.specs.Sources.{seen}
use Rattle.cs_rows.proofs.EvaluationLemmas.{linked_within}
use Rattle.cs_rows.proofs.InsideLemmas.{inside_begins, inside_ends, inside_goes_on, inside_stops}
use Rattle.cs_rows.proofs.WalkLemmas.{list_goes_on, list_stops, nothing_read, reads_on}
use Rattle.cs_rows.proofs.inside.rows_in_chain.Goals as goal

pub loop-linked-init : goal.loop-linked-init
loop-linked-init g c =
    let v = g.I.Source.view c.args.index.now in
    let first = c.in_ok-found.ensures in
    let f = hit_of_linked (division v.index) c.args.hits.now in
    record {
      walk = record {
        store = reads_on nothing_read first.store;
        later = first.reads.later;
        reads = (let r = first.reads.within in let all = ap (λ ls. sum (map f ls)) c.as_slice-linked-items.ensures in omega (arith, r, all));
      };
      within = first.within;
      told = λ b is stands. inside_begins (v.stock b) (lists_doc c.args.hits.now) c.args.chain.now c.as_slice-linked-items.result.now
          c.as_slice-linked-items.ensures c.in_ok-found.found.posts (first.told b is stands);
    }

pub returns-then-len-eq0-clause-told : goal.returns-then-len-eq0-clause-told
returns-then-len-eq0-clause-told g c b is stands =
    inside_stops ((g.I.Source.view c.args.index.now).stock b) (lists_doc c.args.hits.now) c.args.chain.now c.as_slice-linked-items.result.now
    c.loop-linked.linked-index c.loop-linked.found.posts (sym c.len.ensures.value ∙ c.if-len-eq0.true) (c.loop-linked.invariant.told b is stands)

pub loop-linked-preserved : goal.loop-linked-preserved
loop-linked-preserved g c =
    let v = g.I.Source.view c.args.index.now in
    let inv = c.loop-linked.invariant in
    let x = c.linked-item.result in
    record {
      walk = list_goes_on inv.walk c.loop-linked-test.true c.linked-item.is c.in_ok-next.ensures.store c.in_ok-next.ensures.reads;
      within = linked_within (seen v) (out-Linked x).link c.loop-linked.found.posts c.in_ok-next.next.posts c.in_ok-found-2.found.posts
          c.in_ok-next.ensures.within c.in_ok-found-2.ensures;
      told = λ b is stands. inside_goes_on (v.stock b) (lists_doc c.args.hits.now) c.args.chain.now c.as_slice-linked-items.result.now
          c.loop-linked.linked-index x c.loop-linked-test.true c.linked-item.is c.loop-linked.found.posts c.in_ok-next.next.posts
          c.in_ok-found-2.found.posts (inv.told b is stands) (c.in_ok-next.ensures.told b (inv.walk.store.bytes ∙ is) stands) c.in_ok-found-2.ensures;
    }

pub returns-clause-told : goal.returns-clause-told
returns-clause-told g c b is stands =
    inside_ends ((g.I.Source.view c.args.index.now).stock b) (lists_doc c.args.hits.now) c.args.chain.now c.as_slice-linked-items.result.now
    c.loop-linked.linked-index c.loop-linked.found.posts (omega (arith, c.loop-linked-test.false)) (c.loop-linked.invariant.told b is stands)

pub returns-in_err-next-clause-reads : goal.returns-in_err-next-clause-reads
returns-in_err-next-clause-reads g c =
    list_stops c.loop-linked.invariant.walk c.loop-linked-test.true c.linked-item.is c.rows_in_atom-in-loop-linked.ensures.reads

pub returns-in_err-found-2-clause-reads : goal.returns-in_err-found-2-clause-reads
returns-in_err-found-2-clause-reads g c =
    list_stops c.loop-linked.invariant.walk c.loop-linked-test.true c.linked-item.is c.rows_in_atom-in-loop-linked.ensures.reads
