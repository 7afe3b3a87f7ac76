use Rattle.std.proofs.Common.{◌∙◌}
use Rattle.cs_cols.proofs.Columns.{columns-back}
use Rattle.cs_cols.proofs.cols.Cols.copy.Goals as goal

pub returns : goal.returns
returns c =
    c.extend_reserved.ensures.posts
    ∙ rw (c.in_ok-copy.ensures.none, c.docs.ensures, c.words.ensures, c.places.ensures, c.scores.ensures) (columns-back c.args.self.now.posts)
