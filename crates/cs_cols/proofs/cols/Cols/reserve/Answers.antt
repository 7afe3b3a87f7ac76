use Rattle.std.proofs.Common.{◌≡◌, ◌∙◌, ℕ, List, ap, arith, length}
use Rattle.std.specs.Prelude.{map}
use Rattle.std.proofs.lemmas.List.{length-map}
use Rattle.cs_base.specs.declared.content.doc.Post.{Post}
use Rattle.cs_cols.specs.HeldPosts.{HeldPosts}
use Rattle.cs_cols.proofs.Columns.{columns-back, held_length}
use Rattle.cs_cols.proofs.cols.Cols.reserve.Goals as goal

-- as many documents as posts are added
docs_long : (posts : List Post) (ds : List ℕ) → ds ≡ map (λ p. p.doc) posts → length ds ≡ length posts
docs_long posts ds are = ap length are ∙ length-map posts (λ p. p.doc)

pub extend_reserved-requires-clause-room : goal.extend_reserved-requires-clause-room
extend_reserved-requires-clause-room c =
    let s = c.self.inside in
    let held = held_length s.docs.items s.words.items s.places.items s.scores.items _ _ c.self.invariant.0 c.self.view_is in
    omega (arith, held, docs_long _ _ c.docs.ensures, s.docs.ok.0, c.in_ok-more.ensures.room, c.max-cap.ensures, c.in-Some.ensures.1, c.len-len.ensures)

pub returns-clause-ok : goal.returns-clause-ok
returns-clause-ok c =
    let now = ap (λ (h : HeldPosts). h.room) c.drop.view_is in
    let s = c.self.inside in
    let held = held_length s.docs.items s.words.items s.places.items s.scores.items _ _ c.self.invariant.0 c.self.view_is in
    let left = c.extend_reserved.ensures.room in
    omega (arith, now, left, held, docs_long _ _ c.docs.ensures, s.docs.ok.0, c.in_ok-more.ensures.room, c.max-cap.ensures, c.in-Some.ensures.1, c.len-len.ensures)

pub returns-clause-posts : goal.returns-clause-posts
returns-clause-posts c =
    ap (λ (h : HeldPosts). h.posts) c.drop.view_is ∙ c.extend_reserved.ensures.posts
    ∙ rw (c.in_ok-more.ensures.none, c.docs.ensures, c.words.ensures, c.places.ensures, c.scores.ensures) (columns-back c.args.self.now.posts)

pub returns-clause-room : goal.returns-clause-room
returns-clause-room c =
    let most = returns-clause-ok c in
    let had = ap (λ (h : HeldPosts). h.room) c.self.view_is in
    let few = c.if-n-cap.false in
    let len = c.len-len.ensures in
    let cap = c.capacity-cap.ensures in
    omega (arith, most, had, few, len, cap)
