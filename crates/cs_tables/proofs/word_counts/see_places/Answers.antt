use Rattle.std.proofs.Common.{◌∙◌}
use Rattle.cs_tables.proofs.PlacesLemmas.{place_on}
use Rattle.cs_tables.proofs.word_counts.see_places.Goals as goal

pub loop-place-preserved : goal.loop-place-preserved
loop-place-preserved c =
    let l = c.loop-place in
    let rows = c.args.rows in
    let known = c.requires.known l.place-index 0 c.loop-place-test.true in
    record {
      counted = place_on c.args.low c.args.high rows c.args.places.now l.place-index c.args.marks.now l.marks c.see_row.new.marks c.loop-place-test.true known.0
          (λ p d w. c.see_row.ensures.counted rows.listed.now p d w known.1) l.invariant.counted;
      sized = c.see_row.ensures.sized ∙ l.invariant.sized;
    }
