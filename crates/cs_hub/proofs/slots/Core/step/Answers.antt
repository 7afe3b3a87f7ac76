use Rattle.std.proofs.Common.{ap, refl, rules, ◌∙◌}
use Rattle.cs_model_index.specs.Sections.{file_corpus}
use Rattle.cs_hub.specs.Asked.{standing}
use Rattle.cs_hub.specs.DueReads.{bytes_to_answer, goes_on, requests_on}
use Rattle.cs_hub.proofs.AskedLemmas.{stands_so, within_for}
use Rattle.cs_hub.proofs.FollowLemmas.{good_after, over_same, right_same}
use Rattle.cs_hub.proofs.slots.Core.step.Goals as goal

pub returns-clause-follows : goal.returns-clause-follows
returns-clause-follows g c = λ b told stands good.
    let kept = ap g.S.Store.bytes c.new-asking.ensures.store in
    let over = over_same _ _ b c.args.engine.now _ kept c.new-asking.ensures.engine told stands good in
    right_same (file_corpus b) _ _ _ _ _ _ _ _ _ _ _ _ (ap g.S.Store.faults c.new-asking.ensures.store) (search rules)
    (c.step_with.ensures.follows (file_corpus b) over)

pub returns-clause-good : goal.returns-clause-good
returns-clause-good g c = λ b told stands good.
    let kept = ap g.S.Store.bytes c.new-asking.ensures.store in
    let over = c.step_with.ensures.stays.still (file_corpus b) (over_same _ _ b c.args.engine.now _ kept c.new-asking.ensures.engine told stands good) in
    search (good_after _ _ b c.step_with.new.answerer.engine.now told (ap (λ l. l.1.1.0) c.step_with.ensures.stays.lent ∙ kept) over, rules)

pub returns-clause-reads : goal.returns-clause-reads
returns-clause-reads g c =
    let before = c.new-asking.result in
    let then = c.step_with.new.answerer in
    within_for (goes_on c.step_with.new.self c.args.event) (requests_on (bytes_to_answer c.args.self.now c.args.event c.args.piece.now))
    (standing (g.S.Store.bytes before.store.now) before.engine.now (g.S.Store.reads before.store.now) (g.S.Store.faults before.store.now))
    (standing (g.S.Store.bytes then.store.now) then.engine.now (g.S.Store.reads then.store.now) (g.S.Store.faults then.store.now))
    _ _ _ _ _ _ _ _ (stands_so _ _ _ _ _ _ _ _ (search rules) (search rules) (search rules) (search rules))
    (stands_so _ _ _ _ _ _ _ _ refl (search rules) (search rules) (search rules)) c.step_with.ensures.asked
