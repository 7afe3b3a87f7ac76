use Rattle.std.proofs.Common.{arith}
use Rattle.cs_meet.proofs.Judged.{near_decided}
use Rattle.cs_meet.proofs.links.has_neighbour.Goals as goal

pub returns-else-is_near_at : goal.returns-else-is_near_at
returns-else-is_near_at c =
    let decided = near_decided c.args.posts.now.posts c.args.row c.args.lo c.args.hi c.requires.sorted c.requires.lo c.requires.hi in
    grind (arith, decided)
