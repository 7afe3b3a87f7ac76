use Rattle.std.proofs.Common.{◌∙◌, ap, take}
use Rattle.cs_cols.specs.HeldPosts.{HeldPosts}
use Rattle.cs_cols.proofs.Columns.{even-take, posts-take}
use Rattle.cs_cols.proofs.PlacedLemmas.{placed-kept}
use Rattle.cs_cols.proofs.cols.Cols.truncate.Goals as goal

pub invariant_of-self : goal.invariant_of-self
invariant_of-self c =
    let s = c.self.inside in
    let kept = placed-kept s.docs s.words s.places s.scores c.truncate_column.new.column c.truncate_column-2.new.column c.truncate_column-3.new.column c.truncate_column-4.new.column s.block c.self.invariant.1
    c.truncate_column.ensures.in_place c.truncate_column-2.ensures.in_place c.truncate_column-3.ensures.in_place c.truncate_column-4.ensures.in_place in (
      rw (c.truncate_column.ensures.items, c.truncate_column-2.ensures.items, c.truncate_column-3.ensures.items, c.truncate_column-4.ensures.items)
          (even-take c.args.n s.docs.items s.words.items s.places.items s.scores.items c.self.invariant.0),
      kept,
    )

pub returns-clause-posts : goal.returns-clause-posts
returns-clause-posts c =
    rw (c.truncate_column.ensures.items, c.truncate_column-2.ensures.items, c.truncate_column-3.ensures.items, c.truncate_column-4.ensures.items)
    (posts-take c.args.n c.self.inside.docs.items c.self.inside.words.items c.self.inside.places.items c.self.inside.scores.items
    ∙ ap (λ (h : HeldPosts). take c.args.n h.posts) c.self.view_is)
