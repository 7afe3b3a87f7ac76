use Rattle.std.proofs.Common.{◌≡◌, ◌+◌, ◌∙◌, ◌++◌, Bool, ap, sym, subst, take, get_or, arith, refl}
use Rattle.std.specs.Prelude.{filter}
use Rattle.std.proofs.lemmas.List.{get_or_default, take_all}
use Rattle.cs_base.specs.declared.content.doc.Post.{Post}
use Rattle.cs_tables.specs.WordCounts.{HasCounted, WordCountsView, is_chosen}
use Rattle.cs_rows.proofs.ChosenLemmas.{none_counted, one_counted}
use Rattle.cs_rows.proofs.chosen.count_chosen.Goals.{then-is_chosen, else-is_chosen}
use Rattle.cs_rows.proofs.chosen.count_chosen.Goals as goal

pub loop-row-preserved : goal.loop-row-preserved
loop-row-preserved c =
    let i = c.loop-row.row-index in
    let rows = c.args.rows.now in
    let none : Post = record { doc = 0; word = 0; pos = 0; score = 0 } in
    let p : Post = get_or rows i none in
    let t : Post → Bool = is_chosen c.args.words.0 c.args.words.1 c.args.listed.now in
    let inv = c.loop-row.invariant in
    let l = c.loop-row-test.true in
    let at : p ≡ get_or rows i p = get_or_default rows i none p l in
    elim c.if-is_chosen.branch [
      | then-is_chosen w ↦ record {
        counted = λ seen few had.
            subst (λ n. HasCounted (seen ++ filter t (take (i + 1) rows)) n) (sym w.counts-is)
            (one_counted t seen rows i p l at (sym c.is_chosen.ensures ∙ w.if-is_chosen.true) c.loop-row.counts w.see.new.self few
            (λ before ok h. w.see.ensures.counted p refl refl before ok h) (inv.counted seen few had));
        low = ap (λ (n : WordCountsView). n.low) w.counts-is ∙ w.see.ensures.low ∙ inv.low;
        high = ap (λ (n : WordCountsView). n.high) w.counts-is ∙ w.see.ensures.high ∙ inv.high;
      }
      | else-is_chosen w ↦ record {
        counted = λ seen few had.
            subst (λ n. HasCounted (seen ++ filter t (take (i + 1) rows)) n) (sym w.counts-is)
            (none_counted t seen rows i p l at (sym c.is_chosen.ensures ∙ w.if-is_chosen.false) c.loop-row.counts (inv.counted seen few had));
        low = ap (λ (n : WordCountsView). n.low) w.counts-is ∙ inv.low;
        high = ap (λ (n : WordCountsView). n.high) w.counts-is ∙ inv.high;
      }
    ]

pub returns-clause-counted : goal.returns-clause-counted
returns-clause-counted c seen few had =
    let t : Post → Bool = is_chosen c.args.words.0 c.args.words.1 c.args.listed.now in
    subst (λ rs. HasCounted (seen ++ filter t rs) c.loop-row.counts) (take_all c.loop-row.row-index c.args.rows.now (omega (arith, c.loop-row-test.false)))
    (c.loop-row.invariant.counted seen few had)
