use Rattle.std.proofs.Common.{◌<◌, [], ◌∙◌, ap, length, length-set, take, get_or, refl, arith}
use Rattle.std.proofs.lemmas.Grind.{common_steps}
use Rattle.std.proofs.lemmas.List.{get_or-set_same}
use Rattle.cs_rank.proofs.Absorbs.{first_small, groups_ended}
use Rattle.cs_rank.proofs.GroupsLemmas.{of_no_rows, begun, went_on}
use Rattle.cs_rank.proofs.scores.best_scores.Goals as goal

pub returns-then-is_empty-clause-best : goal.returns-then-is_empty-clause-best
returns-then-is_empty-clause-best c = c.new.ensures.items ∙ of_no_rows c.args.rows.now.posts (grind (arith, common_steps))

pub loop-i-init : goal.loop-i-init
loop-i-init c =
    let s = c.scored_at-current.result in
    record {
      whole = begun c.args.rows.now.posts [] s refl (grind (arith, common_steps))
          (c.scored_at-current.ensures.doc ∙ ap (λ xs. get_or xs 0 s.doc) c.docs-docs.ensures)
          (c.scored_at-current.ensures.score ∙ ap (λ xs. get_or xs 0 s.score) c.scores-scores.ensures);
      held = λ d. get_or-set_same c.in_ok-best.best.items 0 s d (let some : 0 < length c.docs-docs.result.now = grind (arith, common_steps) in omega (arith, some, c.in_ok-best.ensures.len));
      small = first_small c.in_ok-best.best.items s c.in_ok-best.ensures.small c.scored_at-current.ensures.small;
      now = c.scored_at-current.ensures.small;
      near = omega arith;
      within = grind (arith, common_steps);
      even = length-set c.in_ok-best.best.items 0 s ∙ (let len = c.in_ok-best.ensures.len in omega (arith, len));
    }

pub loop-i-preserved : goal.loop-i-preserved
loop-i-preserved c =
    let s = c.scored_at-next.result in
    record {
      whole = went_on c.args.rows.now.posts (take c.loop-i.last c.loop-i.best.items) (take c.absorb-last.result c.absorb-last.new.best.items) c.loop-i.current s c.with_greater-current.result c.loop-i.i c.loop-i.invariant.whole (grind (arith, common_steps))
          (c.scored_at-next.ensures.doc ∙ ap (λ xs. get_or xs c.loop-i.i s.doc) c.docs-docs.ensures)
          (c.scored_at-next.ensures.score ∙ ap (λ xs. get_or xs c.loop-i.i s.score) c.scores-scores.ensures)
          (rw c.with_greater-current.ensures.value c.absorb-last.ensures.groups);
      held = rw c.with_greater-current.ensures.value c.absorb-last.ensures.held;
      small = c.absorb-last.ensures.small c.loop-i.invariant.small;
      now = c.with_greater-current.ensures.small;
      near = omega arith;
      within = omega arith;
      even = c.absorb-last.ensures.len ∙ c.loop-i.invariant.even;
    }

pub returns-clause-best : goal.returns-clause-best
returns-clause-best c =
    let inv = c.loop-i.invariant in
    groups_ended c.args.rows.now.posts c.loop-i.best.items c.truncate.new.self.items c.loop-i.current c.loop-i.last c.loop-i.i c.requires inv.whole (grind (arith, common_steps))
    (omega (arith, inv.even, inv.within)) inv.held c.truncate.ensures.items
