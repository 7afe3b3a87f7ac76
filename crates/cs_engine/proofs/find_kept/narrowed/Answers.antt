use Rattle.std.proofs.Common.{◌≡◌, ◌∙◌, subst}
use Rattle.std.specs.Prelude.{filter, IfSome}
use Rattle.cs_model.specs.Answers.{begins}
use Rattle.cs_model_index.specs.Numbered.{word_at}
use Rattle.cs_rows.specs.Sources.{seen}
use Rattle.cs_vocab.specs.Ranges.{IsRange}
use Rattle.cs_engine.proofs.PlansLemmas.{narrowed_rows}
use Rattle.cs_engine.proofs.find_kept.narrowed.Goals as goal

pub returns-clause-rows : goal.returns-clause-rows
returns-clause-rows g c =
    let i = seen (g.I.Source.view c.args.index.now) in
    subst (λ o. IfSome o (λ p. c.in_ok-found.found.posts ≡ filter (λ post. begins p (word_at i.words post.word)) c.args.rows.now.posts)) c.in-Some.ensures
    (c.in_ok-found.ensures ∙ narrowed_rows i c.in-Some.prefix.now c.range-lo.result.0 c.range-lo.result.1 c.args.rows.now.posts
    (subst (λ p. IsRange i.words p c.range-lo.result.0 c.range-lo.result.1) c.as_bytes.ensures.value c.range-lo.ensures) c.requires.within)
