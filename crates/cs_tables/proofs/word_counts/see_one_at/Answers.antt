use Rattle.std.proofs.Common.{◌∙◌, cond, ap, sym, get_or}
use Rattle.cs_tables.specs.Marks.{saw}
use Rattle.cs_tables.proofs.PlacesLemmas.{place_on}
use Rattle.cs_tables.proofs.WordCountsLemmas.{one_marked, one_row}
use Rattle.cs_tables.proofs.word_counts.see_one_at.Goals as goal

pub loop-place-preserved : goal.loop-place-preserved
loop-place-preserved c =
    let l = c.loop-place in
    let places = c.args.places.now in
    let at = get_or places l.place-index 0 in
    let doc = get_or c.args.rows.docs.now at 0 in
    let known = c.requires.seen.known l.place-index 0 c.loop-place-test.true in
    place_on c.args.low c.args.high c.args.rows places l.place-index c.args.marks.now (one_marked c.args.low c.args.high c.args.rows c.args.marks.now l.mark) _
    c.loop-place-test.true known.0
    (one_row c.args.low c.args.high c.args.rows at c.args.marks.now l.mark c.see.new.self c.requires.seen.sized c.requires.seen.even c.requires.one known.0
    (λ few. c.see.ensures few ∙ ap (λ b. cond b (saw l.mark doc) l.mark) (sym known.1)))
    l.invariant
