use Rattle.std.proofs.Common.{sym, subst}
use Rattle.cs_rows.specs.Counting.{AreListed}
use Rattle.cs_rows.proofs.CountingLemmas.{listed_all}
use Rattle.cs_rows.proofs.counting.listed_docs.Goals as goal

pub returns-in_ok-all-in-All : goal.returns-in_ok-all-in-All
returns-in_ok-all-in-All g c =
    let present = (g.I.Source.view c.args.index.now).present in
    let all = c.in_ok-all-in-All.all.items in
    subst (λ b. AreListed present b all) (sym c.in-All.is) (listed_all present all c.in_ok-all-in-All.ensures)
