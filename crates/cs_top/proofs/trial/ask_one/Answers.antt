use Rattle.std.proofs.Common.{◌++◌, ◌∷◌, [], ap, subst, sym}
use Rattle.cs_top.specs.Trial.{HasAsked, with_one_reply}
use Rattle.cs_top.proofs.trial.ask_one.Goals as goal

pub returns-clause-asked : goal.returns-clause-asked
returns-clause-asked c qs h =
    let left = qs ++ c.args.request.now.query ∷ [] in
    subst (λ x. HasAsked c.answer.new.store.bytes left c.answer.new.engine x) (sym c.count.ensures)
    (subst (λ n. HasAsked c.answer.new.store.bytes left c.answer.new.engine (with_one_reply c.in_ok-reply.note.plan n c.args.counts.now)) (sym (ap (λ r. r.total_hits) c.reply.view_is))
    (c.in_ok-reply.ensures.asked qs c.args.counts.now h))
