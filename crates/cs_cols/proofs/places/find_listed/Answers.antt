use Rattle.std.proofs.Common.{take}
use Rattle.cs_cols.specs.SpanPlaces.{is_listed_at}
use Rattle.cs_cols.proofs.FoundPlaces.{found_all, found_on}
use Rattle.cs_cols.proofs.places.find_listed.Goals as goal

pub loop-i-preserved : goal.loop-i-preserved
loop-i-preserved c =
    let l = c.loop-i in
    let next = found_on (is_listed_at c.args.listed.now c.args.docs.now) c.args.from l.i l.found c.from-found.result l.places c.requires.span l.auto.i
    c.loop-i-test.true c.from-found.ensures l.invariant.found l.invariant.few l.invariant.len in
    record { found = next.0; few = next.1; len = next.2 }

pub returns-clause-found : goal.returns-clause-found
returns-clause-found c =
    let l = c.loop-i in
    found_all (is_listed_at c.args.listed.now c.args.docs.now) c.args.from c.args.to l.i (take l.found l.places) c.requires.span c.loop-i-test.false
    l.auto.i-end l.invariant.found
