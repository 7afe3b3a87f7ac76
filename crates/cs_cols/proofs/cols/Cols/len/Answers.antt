use Rattle.std.proofs.Common.{arith}
use Rattle.cs_cols.proofs.Columns.{posts-length}
use Rattle.cs_cols.proofs.cols.Cols.len.Goals as goal

pub returns-clause-value : goal.returns-clause-value
returns-clause-value c =
    let n = posts-length c.self.inside.docs.items c.self.inside.words.items c.self.inside.places.items c.self.inside.scores.items c.self.invariant.0 in
    let all = c.self.inside.docs.ok in
    rw (← c.self.view_is) (omega (arith, n))

pub returns-clause-small : goal.returns-clause-small
returns-clause-small c = let all = c.self.inside.docs.ok in let few = c.self.inside.docs.small in omega arith
