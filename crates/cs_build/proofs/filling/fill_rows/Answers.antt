use Rattle.std.proofs.Common.{ℕ, ◌≡◌, ◌+◌, ◌<◌, List, ◌∷◌, length, get_or, drop, ap, sym, ◌∙◌, arith}
use Rattle.std.proofs.lemmas.List.{drop_more}
use Rattle.cs_base.specs.declared.content.doc.Row.{Row}
use Rattle.cs_cols.proofs.Columns.{post}
use Rattle.cs_build.specs.RowColumns.{posts_by}
use Rattle.cs_build.proofs.FillLemmas.{can_next, place_inside, place_roomy, taken_next, word_known}
use Rattle.cs_build.proofs.filling.fill_rows.Goals as goal

here : (i : ℕ) (rows : List Row) (ns : List ℕ) (r : Row) → length rows ≡ length ns → i < length ns → r ≡ get_or rows i r
    → posts_by (drop i rows) (drop i ns) ≡ post r.doc (get_or ns i 0) r.pos r.score ∷ posts_by (drop (i + 1) rows) (drop (i + 1) ns)
here i rows ns r e l is =
    ap (λ x. posts_by x (drop i ns)) (drop_more rows i r (omega (arith, e, l)) ∙ ap (λ x. x ∷ drop (i + 1) rows) (sym is))
    ∙ ap (posts_by (r ∷ drop (i + 1) rows)) (drop_more ns i 0 l)

pub bounds-places-number : goal.bounds-places-number
bounds-places-number c = word_known c.args.places.now c.loop-i.blocks _ _ _ (here c.loop-i.i c.args.rows.now c.args.numbers.now c.index-rows-i.result c.requires.each c.loop-i-test.true c.index-rows-i.is) c.loop-i.invariant.can

pub push_at-requires-clause-inside : goal.push_at-requires-clause-inside
push_at-requires-clause-inside c = place_inside c.args.places.now c.loop-i.blocks _ _ _ (here c.loop-i.i c.args.rows.now c.args.numbers.now c.index-rows-i.result c.requires.each c.loop-i-test.true c.index-rows-i.is) c.loop-i.invariant.can

pub push_at-requires-clause-room : goal.push_at-requires-clause-room
push_at-requires-clause-room c = place_roomy c.args.places.now c.loop-i.blocks _ _ _ (here c.loop-i.i c.args.rows.now c.args.numbers.now c.index-rows-i.result c.requires.each c.loop-i-test.true c.index-rows-i.is) c.loop-i.invariant.can

pub loop-i-preserved : goal.loop-i-preserved
loop-i-preserved c =
    let e = here c.loop-i.i c.args.rows.now c.args.numbers.now c.index-rows-i.result c.requires.each c.loop-i-test.true c.index-rows-i.is in
    let can = c.loop-i.invariant.can in
    record {
      can = can_next c.args.places.now c.loop-i.blocks _ _ _ e can c.push_at.new.blocks c.push_at.ensures;
      goes = λ end more. c.loop-i.invariant.goes end (taken_next c.args.places.now c.loop-i.blocks _ _ _ e can c.push_at.new.blocks end c.push_at.ensures more);
    }
