use Rattle.std.proofs.Common.{ℕ, ◌≡◌, ◌+◌, ◌<◌, List, ◌∷◌, length, get_or, drop, ap}
use Rattle.std.proofs.lemmas.List.{drop_more}
use Rattle.cs_cols.proofs.Columns.{post}
use Rattle.cs_build.specs.RowColumns.{facet_posts}
use Rattle.cs_build.proofs.FillLemmas.{can_next, place_inside, place_roomy, taken_next, word_known}
use Rattle.cs_build.proofs.filling.fill_facets.Goals as goal

here : (d score i : ℕ) (ns : List ℕ) → i < length ns → facet_posts d score (drop i ns) ≡ post d (get_or ns i 0) 0 score ∷ facet_posts d score (drop (i + 1) ns)
here d score i ns l = ap (facet_posts d score) (drop_more ns i 0 l)

pub bounds-places-number : goal.bounds-places-number
bounds-places-number c = word_known c.args.places.now c.loop-number.blocks _ _ _ (here c.args.doc c.args.score c.loop-number.number-index c.args.numbers.now c.loop-number-test.true) c.loop-number.invariant.can

pub push_at-requires-clause-inside : goal.push_at-requires-clause-inside
push_at-requires-clause-inside c = place_inside c.args.places.now c.loop-number.blocks _ _ _ (here c.args.doc c.args.score c.loop-number.number-index c.args.numbers.now c.loop-number-test.true) c.loop-number.invariant.can

pub push_at-requires-clause-room : goal.push_at-requires-clause-room
push_at-requires-clause-room c = place_roomy c.args.places.now c.loop-number.blocks _ _ _ (here c.args.doc c.args.score c.loop-number.number-index c.args.numbers.now c.loop-number-test.true) c.loop-number.invariant.can

pub loop-number-preserved : goal.loop-number-preserved
loop-number-preserved c =
    let e = here c.args.doc c.args.score c.loop-number.number-index c.args.numbers.now c.loop-number-test.true in
    let can = c.loop-number.invariant.can in
    record {
      can = can_next c.args.places.now c.loop-number.blocks _ _ _ e can c.push_at.new.blocks c.push_at.ensures;
      goes = λ end more. c.loop-number.invariant.goes end (taken_next c.args.places.now c.loop-number.blocks _ _ _ e can c.push_at.new.blocks end c.push_at.ensures more);
    }
