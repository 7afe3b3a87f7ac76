use Rattle.std.proofs.Common.{◌≡◌, ◌<◌, ◌∙◌, ◌++◌, sym, subst, take, get_or, length, arith, refl, length-set}
use Rattle.std.specs.Prelude.{max, slice_index, slice_set}
use Rattle.std.proofs.lemmas.List.{get_or_default, take_all}
use Rattle.cs_base.specs.declared.content.doc.Post.{Post}
use Rattle.cs_tables.specs.WordCounts.{HasCounted}
use Rattle.cs_rows.specs.BestScores.{HasBestScores}
use Rattle.cs_rows.proofs.BestLemmas.{raised}
use Rattle.cs_rows.proofs.ChosenLemmas.{next_counted, next_row}
use Rattle.cs_rows.proofs.chosen.note_rows.Goals as goal

pub see-requires-clause-from : goal.see-requires-clause-from
see-requires-clause-from c =
    let none : Post = record { doc = 0; word = 0; pos = 0; score = 0 } in
    let between = c.requires.words c.loop-row.row-index none c.loop-row-test.true in
    omega (arith, between.0, c.loop-row.invariant.low)

pub see-requires-clause-upto : goal.see-requires-clause-upto
see-requires-clause-upto c =
    let none : Post = record { doc = 0; word = 0; pos = 0; score = 0 } in
    let between = c.requires.words c.loop-row.row-index none c.loop-row-test.true in
    omega (arith, between.1, c.loop-row.invariant.high)

pub loop-row-preserved : goal.loop-row-preserved
loop-row-preserved c =
    let i = c.loop-row.row-index in
    let rows = c.args.rows.now in
    let best = c.loop-row.best in
    let none : Post = record { doc = 0; word = 0; pos = 0; score = 0 } in
    let p : Post = get_or rows i none in
    let inv = c.loop-row.invariant in
    let l = c.loop-row-test.true in
    let at : p ≡ get_or rows i p = get_or_default rows i none p l in
    let below = c.requires.known i none l in
    let inside : p.doc < length best = omega (arith, below, inv.len) in
    let is : c.max.result ≡ max (slice_index best p.doc) p.score = omega (arith, c.max.ensures) in
    record {
      counted = λ seen few had.
          next_counted seen rows i p l at c.loop-row.counts c.see.new.self few (c.see.ensures.counted p refl refl) (inv.counted seen few had);
      best = λ seen has.
          subst (λ rs. HasBestScores rs (slice_set best p.doc c.max.result)) (sym (next_row seen rows i p l at))
          (raised (seen ++ take i rows) best p c.max.result inside is (inv.best seen has));
      low = c.see.ensures.low ∙ inv.low;
      high = c.see.ensures.high ∙ inv.high;
      len = length-set best p.doc c.max.result ∙ inv.len;
    }

pub returns-clause-counted : goal.returns-clause-counted
returns-clause-counted c seen few had =
    subst (λ rs. HasCounted (seen ++ rs) c.loop-row.counts) (take_all c.loop-row.row-index c.args.rows.now (omega (arith, c.loop-row-test.false)))
    (c.loop-row.invariant.counted seen few had)

pub returns-clause-best : goal.returns-clause-best
returns-clause-best c seen has =
    subst (λ rs. HasBestScores (seen ++ rs) c.loop-row.best) (take_all c.loop-row.row-index c.args.rows.now (omega (arith, c.loop-row-test.false)))
    (c.loop-row.invariant.best seen has)
