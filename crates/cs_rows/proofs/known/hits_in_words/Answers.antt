use Rattle.std.proofs.Common.{◌+◌, ◌*◌, ◌∙◌, sym, ap, subst, arith}
use Rattle.std.specs.Prelude.{filter, IfSome}
use Rattle.cs_base.specs.declared.content.doc.Base.TheVariants as base
use Rattle.cs_base.specs.declared.content.scores.TheConstants.{MAX_ROW_SCORE}
use Rattle.cs_rank.specs.DocScores.{doc_scores}
use Rattle.cs_rows.specs.KnownHits.{AreHitsOfWords}
use Rattle.cs_rows.specs.Steps.{IsBaseOf}
use Rattle.cs_rows.specs.Stocked.{is_between, base_posts}
use Rattle.cs_rows.proofs.PartSteps.{base_weaker}
use Rattle.cs_rows.proofs.known.hits_in_words.Goals as goal

-- ---- what is known
pub returns-in-Some-clause-told : goal.returns-in-Some-clause-told
returns-in-Some-clause-told g c b is stands known =
    let rows = filter (is_between c.args.words.0 c.args.words.1) ((g.I.Source.view c.args.index.now).stock b).posts in
    let own = subst (λ o. IfSome o (AreHitsOfWords ((g.I.Source.view c.args.index.now).stock b))) c.in-Some.ensures.1 known in
    c.in_ok-copied.ensures ∙ own ∙ ap (λ h. base.Listed (doc_scores h (base_posts h rows))) (sym c.in-Some.ensures.0)

pub returns-in-Some-clause-within : goal.returns-in-Some-clause-within
returns-in-Some-clause-within g c = λ n fits.
    let docs = (g.I.Source.view c.args.index.now).docs in
    let own = subst (λ o. IfSome o (λ k. IsBaseOf docs MAX_ROW_SCORE k.hits.now)) c.in-Some.ensures.1 c.requires.fits in
    subst (IsBaseOf docs (MAX_ROW_SCORE * (n + 1))) (sym c.in_ok-copied.ensures)
    (base_weaker docs MAX_ROW_SCORE (MAX_ROW_SCORE * (n + 1)) _ (omega arith) own)

-- ---- what is read
pub returns-clause-told : goal.returns-clause-told
returns-clause-told g c b is stands known = ap base.Listed (c.in_ok-scored.ensures.told b is stands)
