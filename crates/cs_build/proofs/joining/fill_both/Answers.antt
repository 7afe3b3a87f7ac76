use Rattle.std.proofs.Common.{ℕ, ◌≡◌, ◌+◌, ◌<◌, ◌^◌, List, length, map, subst, sym, ap, ◌∙◌, arith}
use Rattle.std.specs.List.{All}
use Rattle.std.proofs.lemmas.List.Elements.{All-weaker}
use Rattle.cs_base.specs.declared.content.doc.Post.{Post}
use Rattle.cs_base.specs.declared.content.limits.TheConstants.{MAX_DOCS}
use Rattle.cs_model_index.specs.Images.{Image, image_posts}
use Rattle.cs_build.specs.Joining.{held_posts, moved_post}
use Rattle.cs_build.specs.WordRuns.{AreTaken, CanTake}
use Rattle.cs_build.proofs.FillLemmas.{can_behind, can_front, taken-append}
use Rattle.cs_build.proofs.JoiningLemmas.{all_behind, all_front, all_moved}
use Rattle.cs_build.proofs.joining.fill_both.Goals as goal

few : (shift : List ℕ) (n : ℕ) (posts held : List Post) → held ≡ posts → All (λ p. p.doc < MAX_DOCS) (map (moved_post shift n) posts) → All (λ p. p.doc + n < 2 ^ 32) held
few shift n posts held are h =
    subst (All (λ p. p.doc + n < 2 ^ 32)) (sym are)
    (All-weaker (λ p. p.doc + n < MAX_DOCS) (λ p. p.doc + n < 2 ^ 32) (λ p l. omega (arith, l)) posts (all_moved shift n (λ p. p.doc < MAX_DOCS) posts h))

same : (shift : List ℕ) (n m : ℕ) (posts held : List Post) → held ≡ posts → n ≡ m → map (moved_post shift m) posts ≡ map (moved_post shift n) held
same shift n m posts held are is = ap (map (moved_post shift m)) (sym are) ∙ ap (λ k. map (moved_post shift k) held) (sym is)

pub fill_moved-requires-clause-shift : goal.fill_moved-requires-clause-shift
fill_moved-requires-clause-shift c = subst (All (λ p. p.word < length c.args.first.now)) (sym (ap held_posts c.as_slice.ensures ∙ ap image_posts c.a.view_is)) c.requires.first

pub fill_moved-requires-clause-docs : goal.fill_moved-requires-clause-docs
fill_moved-requires-clause-docs c =
    few c.args.first.now 0 (image_posts c.args.a.now) (held_posts c.as_slice.result.now) (ap held_posts c.as_slice.ensures ∙ ap image_posts c.a.view_is)
    (all_front (λ (p : Post). p.doc < MAX_DOCS) (map (moved_post c.args.first.now 0) (image_posts c.args.a.now)) _ c.requires.docs)

pub fill_moved-requires-clause-room : goal.fill_moved-requires-clause-room
fill_moved-requires-clause-room c =
    let e = same c.args.first.now 0 0 (image_posts c.args.a.now) (held_posts c.as_slice.result.now) (ap held_posts c.as_slice.ensures ∙ ap image_posts c.a.view_is) (omega arith) in
    subst (CanTake c.args.places.now c.args.blocks.now) e
    (can_front c.args.places.now c.args.blocks.now (map (moved_post c.args.first.now 0) (image_posts c.args.a.now)) (map (moved_post c.args.second.now (length c.args.a.now.titles)) (image_posts c.args.b.now)) c.requires.room)

pub fill_moved-requires-2-clause-shift : goal.fill_moved-requires-2-clause-shift
fill_moved-requires-2-clause-shift c = subst (All (λ p. p.word < length c.args.second.now)) (sym (ap held_posts c.as_slice-2.ensures ∙ ap image_posts c.b.view_is)) c.requires.second

pub fill_moved-requires-2-clause-docs : goal.fill_moved-requires-2-clause-docs
fill_moved-requires-2-clause-docs c =
    let n : c.len-behind.result ≡ length c.args.a.now.titles = c.len-behind.ensures ∙ ap (λ (i : Image). length i.titles) c.a.view_is in
    few c.args.second.now c.len-behind.result (image_posts c.args.b.now) (held_posts c.as_slice-2.result.now) (ap held_posts c.as_slice-2.ensures ∙ ap image_posts c.b.view_is)
    (subst (λ k. All (λ p. p.doc < MAX_DOCS) (map (moved_post c.args.second.now k) (image_posts c.args.b.now))) (sym n)
    (all_behind (λ (p : Post). p.doc < MAX_DOCS) (map (moved_post c.args.first.now 0) (image_posts c.args.a.now)) _ c.requires.docs))

pub fill_moved-requires-2-clause-room : goal.fill_moved-requires-2-clause-room
fill_moved-requires-2-clause-room c =
    let n : c.len-behind.result ≡ length c.args.a.now.titles = c.len-behind.ensures ∙ ap (λ (i : Image). length i.titles) c.a.view_is in
    let e1 = same c.args.first.now 0 0 (image_posts c.args.a.now) (held_posts c.as_slice.result.now) (ap held_posts c.as_slice.ensures ∙ ap image_posts c.a.view_is) (omega arith) in
    let e2 = same c.args.second.now c.len-behind.result (length c.args.a.now.titles) (image_posts c.args.b.now) (held_posts c.as_slice-2.result.now) (ap held_posts c.as_slice-2.ensures ∙ ap image_posts c.b.view_is) n in
    subst (CanTake c.args.places.now c.fill_moved.new.blocks) e2
    (can_behind c.args.places.now c.args.blocks.now c.fill_moved.new.blocks (map (moved_post c.args.first.now 0) (image_posts c.args.a.now)) (map (moved_post c.args.second.now (length c.args.a.now.titles)) (image_posts c.args.b.now)) c.requires.room
    (subst (λ ps. AreTaken c.args.places.now ps c.args.blocks.now c.fill_moved.new.blocks) (sym e1) c.fill_moved.ensures))

pub returns : goal.returns
returns c =
    let n : c.len-behind.result ≡ length c.args.a.now.titles = c.len-behind.ensures ∙ ap (λ (i : Image). length i.titles) c.a.view_is in
    let e1 = same c.args.first.now 0 0 (image_posts c.args.a.now) (held_posts c.as_slice.result.now) (ap held_posts c.as_slice.ensures ∙ ap image_posts c.a.view_is) (omega arith) in
    let e2 = same c.args.second.now c.len-behind.result (length c.args.a.now.titles) (image_posts c.args.b.now) (held_posts c.as_slice-2.result.now) (ap held_posts c.as_slice-2.ensures ∙ ap image_posts c.b.view_is) n in
    taken-append c.args.places.now c.args.blocks.now c.fill_moved.new.blocks c.fill_moved-2.new.blocks (map (moved_post c.args.first.now 0) (image_posts c.args.a.now)) (map (moved_post c.args.second.now (length c.args.a.now.titles)) (image_posts c.args.b.now))
    (subst (λ ps. AreTaken c.args.places.now ps c.args.blocks.now c.fill_moved.new.blocks) (sym e1) c.fill_moved.ensures)
    (subst (λ ps. AreTaken c.args.places.now ps c.fill_moved.new.blocks c.fill_moved-2.new.blocks) (sym e2) c.fill_moved-2.ensures)
