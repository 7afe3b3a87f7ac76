use Rattle.std.proofs.Common.{◌*◌, ◌+◌, ◌≤◌, ◌∙◌, ap, length, map, sym, subst}
use Rattle.std.proofs.lemmas.List.Elements.{All-weaker}
use Rattle.cs_base.specs.declared.content.doc.Base.TheVariants as base
use Rattle.cs_base.specs.declared.content.doc.Scored.{Scored}
use Rattle.cs_base.specs.declared.content.scores.TheConstants.{MAX_ROW_SCORE}
use Rattle.cs_rank.specs.DocScores.{with_base}
use Rattle.cs_rows.specs.Steps.{IsBaseOf, IsHitOf}
use Rattle.cs_rows.proofs.BehindLemmas.{over_in}
use Rattle.cs_rows.proofs.best.scored_in.Goals as goal

pub scored_over-requires-clause-sorted : goal.scored_over-requires-clause-sorted
scored_over-requires-clause-sorted c = c.in_ok-found.ensures.fit.0

pub scored_over-requires-clause-small : goal.scored_over-requires-clause-small
scored_over-requires-clause-small c =
    All-weaker (IsHitOf (length c.args.best.now) MAX_ROW_SCORE) (λ (h : Scored). h.score ≤ MAX_ROW_SCORE)
    (λ x h. h.score) c.in_ok-found.found.items c.in_ok-found.ensures.fit.1

pub returns-clause-scored : goal.returns-clause-scored
returns-clause-scored c = c.in_ok-scored.ensures ∙ ap (map (with_base c.args.hits.now)) c.in_ok-found.ensures.hits

pub returns-clause-within : goal.returns-clause-within
returns-clause-within c n fits =
    let docs = length c.args.best.now in
    subst (λ hs. IsBaseOf docs (MAX_ROW_SCORE * (n + 1)) (base.Listed hs)) (sym c.in_ok-scored.ensures)
    (over_in docs n c.args.hits.now c.in_ok-found.found.items fits c.in_ok-found.ensures.fit)
