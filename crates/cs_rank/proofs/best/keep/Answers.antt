use Rattle.std.proofs.Common.{sym, subst, [], ◌∷◌, ◌++◌}
use Rattle.cs_rank.specs.Kept.{HasBest}
use Rattle.cs_rank.proofs.KeptLemmas.{kept_too, pruned}
use Rattle.cs_rank.proofs.best.keep.Goals as goal

pub returns-then-len-room-clause-takes : goal.returns-then-len-room-clause-takes
returns-then-len-room-clause-takes c =
    λ seen h. let more = kept_too c.args.room c.args.s seen c.args.kept.now.items c.args.worst c.requires.near h in
    let now = subst (λ xs. HasBest (seen ++ c.args.s ∷ []) c.args.room xs c.args.worst) (sym c.push_reserved.ensures.items) more in
    pruned c.args.room (seen ++ c.args.s ∷ []) c.push_reserved.new.self.items c.prune.new.kept.items c.args.worst c.prune.result c.prune.ensures.kept c.prune.ensures.worst now

pub returns-clause-takes : goal.returns-clause-takes
returns-clause-takes c =
    λ seen h. let more = kept_too c.args.room c.args.s seen c.args.kept.now.items c.args.worst c.requires.near h in
    subst (λ xs. HasBest (seen ++ c.args.s ∷ []) c.args.room xs c.args.worst) (sym c.push_reserved.ensures.items) more
