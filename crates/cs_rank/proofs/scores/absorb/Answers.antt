use Rattle.cs_rank.proofs.Absorbs.{put_down}
use Rattle.cs_rank.proofs.scores.absorb.Goals as goal

pub returns-clause-groups : goal.returns-clause-groups
returns-clause-groups c = λ rest.
    rw c.with_greater.ensures.value (put_down c.args.best.now.items c.args.last c.from.result c.args.current c.args.next c.requires.room c.requires.held rest c.from.ensures)
