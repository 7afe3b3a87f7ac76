use Rattle.std.proofs.Common.{◌∙◌, ap, ◌++◌, ◌∷◌, []}
use Rattle.cs_cols.specs.HeldPosts.{HeldPosts}
use Rattle.cs_cols.proofs.Columns.{posts-push}
use Rattle.cs_cols.proofs.cols.Cols.push_reserved.Goals as goal

pub returns-clause-posts : goal.returns-clause-posts
returns-clause-posts c =
    let s = c.self.inside in
    rw (c.push_reserved.ensures.items, c.push_reserved-2.ensures.items, c.push_reserved-3.ensures.items, c.push_reserved-4.ensures.items)
    (posts-push s.docs.items s.words.items s.places.items s.scores.items c.self.invariant.0 c.args.p ∙ ap (λ (h : HeldPosts). h.posts ++ c.args.p ∷ []) c.self.view_is)
