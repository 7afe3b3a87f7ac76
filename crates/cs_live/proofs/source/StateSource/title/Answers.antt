use Rattle.std.proofs.Common.{◌∙◌, ap, subst}
use Rattle.std.proofs.lemmas.Result.{IfOk-weaker}
use Rattle.cs_live.specs.States.{IsState}
use Rattle.cs_live.proofs.FetchedLemmas.{title_stood}
use Rattle.cs_live.proofs.source.StateSource.title.Goals as goal

pub returns-clause-text : goal.returns-clause-text
returns-clause-text g c = IfOk-weaker c.title_now.result _ _ (λ t h. h.text) c.title_now.ensures.title

pub returns-clause-stood : goal.returns-clause-stood
returns-clause-stood g c b tells stands =
    IfOk-weaker c.title_now.result _ _
    (λ t h. title_stood c.args.self.now (subst IsState c.self.view_is c.self.invariant) c.args.doc t (ap (λ x. x.index) c.self.view_is) (c.deref.ensures.value ∙ ap (λ x. x.present) c.self.view_is)
    (ap (λ x. x.added) c.self.view_is)
    c.requires.in_range b tells stands h) c.title_now.ensures.title
