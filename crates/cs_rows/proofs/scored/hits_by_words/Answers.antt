use Rattle.std.proofs.Common.{◌*◌, ◌+◌, length, map, sym, ap, subst, ◌∙◌, arith}
use Rattle.std.specs.Prelude.{filter}
use Rattle.cs_base.specs.declared.content.doc.Base.TheVariants as base
use Rattle.cs_base.specs.declared.content.limits.TheConstants.{MAX_PARTS}
use Rattle.cs_base.specs.declared.content.scores.TheConstants.{MAX_ROW_SCORE}
use Rattle.cs_rows.specs.Counting.{in_listed}
use Rattle.cs_rows.specs.BestScores.{HasBestScores, hits_in}
use Rattle.cs_rows.specs.Steps.{IsBaseOf}
use Rattle.cs_rows.specs.Stocked.{is_between}
use Rattle.cs_rank.specs.DocScores.{with_base}
use Rattle.cs_rows.proofs.CountingLemmas.{listed_in}
use Rattle.cs_rows.proofs.PartSteps.{base_in}
use Rattle.cs_rows.proofs.SkippingLemmas.{sieve_of}
use Rattle.cs_rows.proofs.BehindLemmas.{scored_are}
use Rattle.cs_rows.proofs.scored.hits_by_words.Goals as goal

pub best_in_blocks-requires-clause-sieve : goal.best_in_blocks-requires-clause-sieve
best_in_blocks-requires-clause-sieve g c =
    let v = g.I.Source.view c.args.index.now in
    let hits = c.args.hits.now in
    sieve_of (g.S.Store.bytes c.args.store.now) v (MAX_ROW_SCORE * MAX_PARTS) hits c.deref.result.now c.requires.opened (omega arith) c.requires.base
    (listed_in hits c.in_ok-listed.listed.items c.deref.result.now c.in_ok-listed.ensures c.deref.ensures.value)

pub scored_in-requires-clause-base : goal.scored_in-requires-clause-base
scored_in-requires-clause-base g c = base_in (g.I.Source.view c.args.index.now).docs (MAX_ROW_SCORE * MAX_PARTS) c.args.hits.now (omega arith) c.requires.base

pub returns-clause-told : goal.returns-clause-told
returns-clause-told g c b is stands =
    let lo = c.args.words.0 in
    let hi = c.args.words.1 in
    let hits = c.args.hits.now in
    let listed = c.in_ok-listed.listed.items in
    let best = c.in_ok-best.best.items in
    let has = subst (λ l. HasBestScores (filter (in_listed l) (filter (is_between lo hi) ((g.I.Source.view c.args.index.now).stock b).posts)) best)
    c.deref.ensures.value
    (c.in_ok-best.ensures.told b is stands) in
    scored_are b (g.I.Source.view c.args.index.now) stands c.requires.opened.source lo hi listed hits c.in_ok-listed.ensures best c.in_ok-scored.scored
    c.in_ok-best.ensures.long has
    (c.in_ok-scored.ensures.scored ∙ ap (λ l. map (with_base hits) (hits_in 0 l)) c.deref-2.ensures.value)

pub returns-clause-within : goal.returns-clause-within
returns-clause-within g c = λ n fits.
    let long = ap length c.deref-2.ensures.value ∙ c.in_ok-best.ensures.long in
    subst (λ m. IsBaseOf m (MAX_ROW_SCORE * (n + 1)) (base.Listed c.in_ok-scored.scored)) long
    (c.in_ok-scored.ensures.within n (subst (λ m. IsBaseOf m (MAX_ROW_SCORE * n) c.args.hits.now) (sym long) fits))
