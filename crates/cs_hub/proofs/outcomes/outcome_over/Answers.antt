use Rattle.std.proofs.Common.{ap, rules, ◌∙◌}
use Rattle.cs_model_index.specs.Sections.{file_corpus}
use Rattle.cs_hub.specs.Asked.{EngineLeaves, standing}
use Rattle.cs_hub.proofs.AskedLemmas.{stands_so}
use Rattle.cs_hub.proofs.FollowLemmas.{good_after, over_same}
use Rattle.cs_hub.proofs.OutcomeLemmas.{change_told, comes_so, may_come}
use Rattle.cs_hub.proofs.outcomes.outcome_over.Goals as goal

pub returns-clause-right : goal.returns-clause-right
returns-clause-right g c = λ b told stands good.
    let kept = ap g.S.Store.bytes c.new-asking.ensures.store in
    c.outcome_of.ensures.right (file_corpus b) (over_same _ _ b c.args.engine.now _ kept c.new-asking.ensures.engine told stands good)

pub returns-clause-good : goal.returns-clause-good
returns-clause-good g c = λ b told stands good.
    let kept = ap g.S.Store.bytes c.new-asking.ensures.store in
    let over = c.outcome_of.ensures.stays.still (file_corpus b) (over_same _ _ b c.args.engine.now _ kept c.new-asking.ensures.engine told stands good) in
    search (good_after _ _ b c.outcome_of.new.answerer.engine.now told (ap (λ l. l.1.1.0) c.outcome_of.ensures.stays.lent ∙ kept) over, rules)

pub returns-clause-outcome : goal.returns-clause-outcome
returns-clause-outcome g c = may_come EngineLeaves c.args.params.now c.outcome_of.result _ _ c.outcome_of.ensures.comes

pub returns-clause-comes : goal.returns-clause-comes
returns-clause-comes g c =
    let before = c.new-asking.result in
    let then = c.outcome_of.new.answerer in
    comes_so EngineLeaves c.args.params.now c.outcome_of.result
    (standing (g.S.Store.bytes before.store.now) before.engine.now (g.S.Store.reads before.store.now) (g.S.Store.faults before.store.now)) _
    (standing (g.S.Store.bytes then.store.now) then.engine.now (g.S.Store.reads then.store.now) (g.S.Store.faults then.store.now)) _
    (stands_so _ _ _ _ _ _ _ _ (search rules) (search rules) (search rules) (search rules))
    (stands_so _ _ _ _ _ _ _ _ (search rules) (search rules) (search rules) (search rules)) c.outcome_of.ensures.comes

pub returns-clause-changed : goal.returns-clause-changed
returns-clause-changed g c = change_told c.args.params.now c.outcome_of.result _ _ (returns-clause-comes g c)
