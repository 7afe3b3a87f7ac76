use Rattle.std.proofs.Common.{◌≡◌, ◌∙◌, ◌+◌, ap, get_or, arith}
use Rattle.std.specs.Prelude.{slice_set}
use Rattle.std.proofs.lemmas.List.{get_or_default}
use Rattle.std.proofs.lemmas.List.Edits.{map_over_more}
use Rattle.cs_base.specs.declared.content.doc.Row.{Row}
use Rattle.cs_model_changes.specs.Joined.{later_row}
use Rattle.cs_live.proofs.AddingLemmas.{still}
use Rattle.cs_live.proofs.adding.put_number.Goals as goal

pub loop-i-preserved : goal.loop-i-preserved
loop-i-preserved c =
    let xs = c.args.rows.now in
    let n = c.args.number in
    let i = c.loop-i.i in
    let x = get_or c.loop-i.rows i c.index-rows-i.result in
    let none : x.doc ≡ 0 = ap (λ (r : Row). r.doc) (still (later_row n) xs c.loop-i.rows i c.index-rows-i.result c.loop-i-test.true c.loop-i.invariant)
    ∙ c.requires i c.index-rows-i.result c.loop-i-test.true in
    let number : n ≡ x.doc + n = omega (arith, none) in
    ap (λ d. slice_set c.loop-i.rows i (let r : Row = record { doc = d; word = x.word; pos = x.pos; score = x.score } in r)) number
    ∙ map_over_more (later_row n) xs c.loop-i.rows i x c.loop-i-test.true c.loop-i.invariant
    (get_or_default c.loop-i.rows i c.index-rows-i.result x (omega (arith, c.loop-i-test.true)))
