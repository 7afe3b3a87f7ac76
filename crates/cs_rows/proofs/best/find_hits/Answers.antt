use Rattle.std.proofs.Common.{◌≡◌, arith, take}
use Rattle.cs_cols.specs.SpanPlaces.{places_where}
use Rattle.cs_cols.proofs.FoundPlaces.{found_all, found_on}
use Rattle.cs_rows.specs.Spans.{has_entry_at}
use Rattle.cs_rows.proofs.SpansLemmas.{entries_there, hits_there}
use Rattle.cs_rows.proofs.best.find_hits.Goals as goal

pub loop-doc-preserved : goal.loop-doc-preserved
loop-doc-preserved c =
    let l = c.loop-doc in
    let next = found_on (has_entry_at c.args.best.now) c.args.from l.doc l.found c.from-found.result l.places c.requires.span l.auto.doc c.loop-doc-test.true
    c.from-found.ensures l.invariant.found l.invariant.few l.invariant.len in
    record { found = next.0; few = next.1; len = next.2 }

pub returns : goal.returns
returns c =
    let best = c.args.best.now in
    let l = c.loop-doc in
    let docs = take l.found l.places in
    let span = c.requires.span in
    let all : docs ≡ places_where (has_entry_at best) c.args.from c.args.to = found_all (has_entry_at best) c.args.from c.args.to l.doc docs span c.loop-doc-test.false
    l.auto.doc-end l.invariant.found in
    record {
      found = hits_there best c.args.from c.args.to docs span all;
      known = entries_there best c.args.from c.args.to docs span all;
      few = omega (arith, l.invariant.few, l.invariant.len, l.auto.doc-end span.onward, span.fits);
    }
