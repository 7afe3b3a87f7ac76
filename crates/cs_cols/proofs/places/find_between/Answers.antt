use Rattle.std.proofs.Common.{◌∙◌, ap, take}
use Rattle.std.specs.Int.{from_bool}
use Rattle.cs_cols.specs.SpanPlaces.{is_between_at}
use Rattle.cs_cols.proofs.FoundPlaces.{found_all, found_on}
use Rattle.cs_cols.proofs.places.find_between.Goals as goal

pub loop-i-preserved : goal.loop-i-preserved
loop-i-preserved c =
    let l = c.loop-i in
    let next = found_on (is_between_at c.args.lo c.args.hi c.args.words.now) c.args.from l.i l.found c.from-found.result l.places c.requires.span l.auto.i c.loop-i-test.true
    (c.from-found.ensures ∙ ap from_bool c.is_between.ensures) l.invariant.found l.invariant.few l.invariant.len in
    record { found = next.0; few = next.1; len = next.2 }

pub returns-clause-found : goal.returns-clause-found
returns-clause-found c =
    let l = c.loop-i in
    found_all (is_between_at c.args.lo c.args.hi c.args.words.now) c.args.from c.args.to l.i (take l.found l.places) c.requires.span c.loop-i-test.false
    l.auto.i-end l.invariant.found
