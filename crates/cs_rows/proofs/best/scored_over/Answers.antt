use Rattle.std.proofs.Common.{◌≤◌, ◌∙◌, ap, sym, subst, map}
use Rattle.std.specs.Prelude.{All}
use Rattle.cs_base.specs.content.Orders.{AreByDoc}
use Rattle.cs_base.specs.declared.content.doc.Base.TheVariants as base
use Rattle.cs_base.specs.declared.content.doc.Scored.{Scored}
use Rattle.cs_base.specs.declared.content.scores.TheConstants.{MAX_ROW_SCORE}
use Rattle.cs_rank.specs.DocScores.{with_base}
use Rattle.cs_rows.proofs.BehindLemmas.{none_added}
use Rattle.cs_rows.proofs.best.scored_over.Goals as goal

pub returns-in-All : goal.returns-in-All
returns-in-All c = c.from_vec.ensures ∙ sym (none_added c.args.found.items) ∙ ap (λ b. map (with_base b) c.args.found.items) (sym c.in-All.is)

pub add_base-requires-clause-best_sorted : goal.add_base-requires-clause-best_sorted
add_base-requires-clause-best_sorted c = subst AreByDoc (sym c.as_slice-in-Listed.ensures.value) c.requires.sorted

pub add_base-requires-clause-small : goal.add_base-requires-clause-small
add_base-requires-clause-small c = subst (All (λ (h : Scored). h.score ≤ MAX_ROW_SCORE)) (sym c.as_slice-in-Listed.ensures.value) c.requires.small

pub returns-in_ok-scored-in-Listed : goal.returns-in_ok-scored-in-Listed
returns-in_ok-scored-in-Listed c =
    c.from_vec-in-Listed.ensures ∙ c.in_ok-scored-in-Listed.ensures
    ∙ ap (map (with_base (base.Listed c.as_slice.result.now))) c.as_slice-in-Listed.ensures.value
    ∙ ap (λ b. map (with_base b) c.args.found.items) (ap base.Listed c.as_slice.ensures ∙ sym c.in-Listed.is)
