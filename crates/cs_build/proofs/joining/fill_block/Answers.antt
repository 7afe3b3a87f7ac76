use Rattle.std.proofs.Common.{ℕ, ◌≡◌, ◌+◌, ◌<◌, List, ◌∷◌, length, get_or, drop, map, ap, sym, ◌∙◌, arith}
use Rattle.std.proofs.lemmas.List.{drop_more}
use Rattle.cs_base.specs.declared.content.doc.Post.{Post}
use Rattle.cs_build.specs.Joining.{moved_post}
use Rattle.cs_build.proofs.FillLemmas.{can_next, place_inside, place_roomy, taken_next, word_known}
use Rattle.cs_build.proofs.joining.fill_block.Goals as goal

next : (shift : List ℕ) (n i : ℕ) (ps : List Post) (p : Post) → i < length ps → p ≡ get_or ps i p → map (moved_post shift n) (drop i ps) ≡ moved_post shift n p ∷ map (moved_post shift n) (drop (i + 1) ps)
next shift n i ps p l is = ap (map (moved_post shift n)) (drop_more ps i p l ∙ ap (λ x. x ∷ drop (i + 1) ps) (sym is))

pub bounds-places-word : goal.bounds-places-word
bounds-places-word c = word_known c.args.places.now c.loop-i.blocks _ _ _ (next c.args.shift.now c.args.docs c.loop-i.i c.args.block.now.posts c.get-doc.result (omega (arith, c.loop-i-test.true, c.len-i-end.ensures.value)) c.get-doc.ensures) c.loop-i.invariant.can

pub push_at-requires-clause-inside : goal.push_at-requires-clause-inside
push_at-requires-clause-inside c = place_inside c.args.places.now c.loop-i.blocks _ _ _ (next c.args.shift.now c.args.docs c.loop-i.i c.args.block.now.posts c.get-doc.result (omega (arith, c.loop-i-test.true, c.len-i-end.ensures.value)) c.get-doc.ensures) c.loop-i.invariant.can

pub push_at-requires-clause-room : goal.push_at-requires-clause-room
push_at-requires-clause-room c = place_roomy c.args.places.now c.loop-i.blocks _ _ _ (next c.args.shift.now c.args.docs c.loop-i.i c.args.block.now.posts c.get-doc.result (omega (arith, c.loop-i-test.true, c.len-i-end.ensures.value)) c.get-doc.ensures) c.loop-i.invariant.can

pub loop-i-preserved : goal.loop-i-preserved
loop-i-preserved c =
    let e = next c.args.shift.now c.args.docs c.loop-i.i c.args.block.now.posts c.get-doc.result (omega (arith, c.loop-i-test.true, c.len-i-end.ensures.value)) c.get-doc.ensures in
    let can = c.loop-i.invariant.can in
    record {
      can = can_next c.args.places.now c.loop-i.blocks _ _ _ e can c.push_at.new.blocks c.push_at.ensures;
      goes = λ end more. c.loop-i.invariant.goes end (taken_next c.args.places.now c.loop-i.blocks _ _ _ e can c.push_at.new.blocks end c.push_at.ensures more);
    }
