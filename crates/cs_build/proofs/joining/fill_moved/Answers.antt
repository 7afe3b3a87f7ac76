use Rattle.std.proofs.Common.{◌+◌, ◌<◌, ◌^◌, List, length, drop, map, subst, sym, ap}
use Rattle.std.specs.List.{All}
use Rattle.cs_base.specs.declared.content.doc.Post.{Post}
use Rattle.cs_build.specs.Joining.{held_posts, moved_post}
use Rattle.cs_build.specs.WordRuns.{AreTaken, CanTake}
use Rattle.cs_build.proofs.FillLemmas.{can_behind, can_front, none_taken, taken-append}
use Rattle.cs_build.proofs.JoiningLemmas.{all_behind, all_front, held_end, held_next, moved_next}
use Rattle.cs_build.proofs.joining.fill_moved.Goals as goal

pub fill_block-requires-clause-shift : goal.fill_block-requires-clause-shift
fill_block-requires-clause-shift c =
    let e = held_next c.args.from.now c.loop-block.block-index c.block-item.result c.loop-block-test.true c.block-item.is in
    all_front (λ (p : Post). p.word < length c.args.shift.now) c.block-item.result.posts _ (subst (All (λ p. p.word < length c.args.shift.now)) e c.loop-block.invariant.words)

pub fill_block-requires-clause-docs : goal.fill_block-requires-clause-docs
fill_block-requires-clause-docs c =
    let e = held_next c.args.from.now c.loop-block.block-index c.block-item.result c.loop-block-test.true c.block-item.is in
    all_front (λ (p : Post). p.doc + c.args.docs < 2 ^ 32) c.block-item.result.posts _ (subst (All (λ p. p.doc + c.args.docs < 2 ^ 32)) e c.loop-block.invariant.docs)

pub fill_block-requires-clause-room : goal.fill_block-requires-clause-room
fill_block-requires-clause-room c =
    can_front c.args.places.now c.loop-block.blocks _ _
    (subst (CanTake c.args.places.now c.loop-block.blocks) (moved_next c.args.shift.now c.args.docs c.args.from.now c.loop-block.block-index c.block-item.result c.loop-block-test.true c.block-item.is) c.loop-block.invariant.can)

pub loop-block-preserved : goal.loop-block-preserved
loop-block-preserved c =
    let places = c.args.places.now in
    let e = moved_next c.args.shift.now c.args.docs c.args.from.now c.loop-block.block-index c.block-item.result c.loop-block-test.true c.block-item.is in
    let h = held_next c.args.from.now c.loop-block.block-index c.block-item.result c.loop-block-test.true c.block-item.is in
    let here : List Post = map (moved_post c.args.shift.now c.args.docs) c.block-item.result.posts in
    let rest : List Post = map (moved_post c.args.shift.now c.args.docs) (held_posts (drop (c.loop-block.block-index + 1) c.args.from.now)) in
    let can = subst (CanTake places c.loop-block.blocks) e c.loop-block.invariant.can in
    record {
      can = can_behind places c.loop-block.blocks c.fill_block.new.blocks here rest can c.fill_block.ensures;
      goes = λ end more. c.loop-block.invariant.goes end
          (subst (λ ps. AreTaken places ps c.loop-block.blocks end) (sym e) (taken-append places c.loop-block.blocks c.fill_block.new.blocks end here rest c.fill_block.ensures more));
      words = all_behind (λ (p : Post). p.word < length c.args.shift.now) c.block-item.result.posts _ (subst (All (λ p. p.word < length c.args.shift.now)) h c.loop-block.invariant.words);
      docs = all_behind (λ (p : Post). p.doc + c.args.docs < 2 ^ 32) c.block-item.result.posts _ (subst (All (λ p. p.doc + c.args.docs < 2 ^ 32)) h c.loop-block.invariant.docs);
    }

pub returns : goal.returns
returns c =
    let places = c.args.places.now in
    c.loop-block.invariant.goes c.loop-block.blocks
    (subst (λ ps. AreTaken places ps c.loop-block.blocks c.loop-block.blocks) (ap (map (moved_post c.args.shift.now c.args.docs)) (sym (held_end c.args.from.now c.loop-block.block-index c.loop-block-test.false)))
    (none_taken places c.loop-block.blocks))
