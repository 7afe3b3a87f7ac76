use Rattle.std.proofs.Common.{◌∙◌, ap, sym, arith}
use Rattle.cs_rank.specs.Kept.{first_of}
use Rattle.cs_rank.proofs.Puts.{first_again}
use Rattle.cs_rank.proofs.best.Best.offer_all.Goals as goal

pub invariant_of-self-2 : goal.invariant_of-self-2
invariant_of-self-2 c =
    let is = c.prune.ensures.kept in
    (is ∙ first_again c.self.inside.room _ ∙ ap (first_of c.self.inside.room) (sym is), omega arith)
