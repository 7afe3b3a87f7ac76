use Rattle.std.proofs.Common.{◌∙◌, ap, sym}
use Rattle.cs_rank.specs.Kept.{first_of}
use Rattle.cs_rank.proofs.Puts.{none_first}
use Rattle.cs_rank.proofs.best.Best.with_room.Goals as goal

pub invariant_of-result : goal.invariant_of-result
invariant_of-result c =
    let none = c.in_ok-list.ensures.items in
    let room = c.in_ok-list.ensures.capacity in
    (none ∙ none_first c.args.room ∙ ap (first_of c.args.room) (sym none), room)
