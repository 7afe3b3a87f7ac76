use Rattle.std.proofs.Common.{◌∙◌, ◌++◌, ◌∷◌, [], ap, refl, subst, sym}
use Rattle.cs_model_index.specs.Sections.{file_corpus}
use Rattle.cs_query.specs.RequestView.{asked}
use Rattle.cs_top.specs.Trial.{HasAsked, with_one_reply}
use Rattle.cs_top.proofs.TrialLemmas.{asked_more, hits_told}
use Rattle.cs_top.proofs.trial.answer.Goals as goal

pub returns-in-Ok-clause-asked : goal.returns-in-Ok-clause-asked
returns-in-Ok-clause-asked c qs counts h =
    let b = c.args.store.now.bytes in
    let q = c.args.request.now.query in
    let total = ap (λ r. r.total_hits) (c.in-Ok.ensures.ok b refl h.stands h.good) ∙ hits_told (file_corpus b) (asked c.args.request.now) in
    subst (λ x. HasAsked x (qs ++ q ∷ []) c.ask.new.self (with_one_reply c.in-Ok.answer.1.plan c.in-Ok.answer.0.total_hits counts)) (sym c.ask.ensures.lent)
    (asked_more b qs q c.args.engine.now c.ask.new.self c.in-Ok.answer counts h c.in-Ok.ensures.keeps c.ask.ensures.index (c.in-Ok.ensures.good b refl h.stands h.good) (c.in-Ok.ensures.after b refl h.stands h.good) total)
