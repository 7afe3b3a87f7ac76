use Rattle.std.proofs.Common.{◌≡◌, ◌+◌, [], refl, sym, subst, ◌∙◌}
use Rattle.cs_cache.specs.AnswerList.{answer_list}
use Rattle.cs_live.specs.Lives.{IsLiveKept, IsRemoved, LiveView}
use Rattle.cs_live.proofs.ChangedLemmas.{behind_removed}
use Rattle.cs_live.proofs.LiveLemmas.{empty_good, is_removed, removed_kept}
use Rattle.cs_live.proofs.live.Live.remove.Goals as goal

-- ---- an index before and after
abbrev before : goal.After-forget → LiveView
before c = record { state = c.self.inside.state; rows = c.self.inside.rows.items; met = c.self.inside.met; changes = c.self.inside.changes; answers = c.self.inside.answers; held = c.self.inside.held }

abbrev after : goal.After-forget → LiveView
after c = record {
  state = c.remove.new.self;
  rows = c.bring_own_in.new.rows.items;
  met = c.self.inside.met;
  changes = c.self.inside.changes + 1;
  answers = c.forget.new.answers;
  held = c.forget.new.held;
}

none : (c : goal.After-forget) → c.forget.new.answers ≡ answer_list [] c.self.inside.answers.capacity
none c = c.forget.ensures.answers

removed_here : (c : goal.After-forget) → IsRemoved (before c) c.args.doc (after c)
removed_here c =
    let brought = c.in_ok-bring_own_in.ensures in
    is_removed (before c) c.self.invariant c.args.doc c.bring_own_in.new.state c.bring_own_in.new.rows.items brought.ok brought.later (after c) c.self.inside.answers.capacity
    c.remove.ensures refl refl refl (none c) c.forget.ensures.held refl

pub invariant_of-self-2 : goal.invariant_of-self-2
invariant_of-self-2 c =
    let brought = c.in_ok-bring_own_in.ensures in
    removed_kept (before c) c.self.invariant c.args.doc c.bring_own_in.new.state c.bring_own_in.new.rows.items brought.ok brought.later (after c) c.self.inside.answers.capacity
    c.remove.ensures refl refl refl (none c) c.forget.ensures.held (sym c.is_present.ensures ∙ c.if-not-is_present.false)

pub returns-clause-removed : goal.returns-clause-removed
returns-clause-removed c = subst (λ v. IsRemoved v c.args.doc (after c)) c.self.view_is (removed_here c)

pub returns-clause-behind : goal.returns-clause-behind
returns-clause-behind c b cs stands behind =
    let kept : IsLiveKept c.args.self.now = subst IsLiveKept c.self.view_is c.self.invariant in
    behind_removed c.args.self.now kept.live.state b stands cs behind c.args.doc (after c) (subst (λ v. IsRemoved v c.args.doc (after c)) c.self.view_is (removed_here c))

pub returns-clause-good : goal.returns-clause-good
returns-clause-good c b = empty_good (after c) c.self.inside.answers.capacity (none c) c.forget.ensures.held b
