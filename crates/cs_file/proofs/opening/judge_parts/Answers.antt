use Rattle.std.proofs.Common.{None, sym, ap, subst, ◌∙◌}
use Rattle.cs_model_index.specs.FileRules.{break_of, laid, tried}
use Rattle.cs_file.specs.declared.entries.Entries.{Entries}
use Rattle.cs_file.specs.Opening.{Refuses, parts_judged}
use Rattle.cs_file.specs.Parting.{keeps_part}
use Rattle.cs_file.proofs.StagesLemmas.{two_first, two_last}
use Rattle.cs_file.proofs.opening.judge_parts.Goals as goal

pub returns-in_err-tried-clause-exact : goal.returns-in_err-tried-clause-exact
unfolding parts_judged
returns-in_err-tried-clause-exact c =
    let breaks : Entries → _ = λ e. break_of (λ i. keeps_part c.args.header.now.target c.args.words.now i.value i.next) (laid (λ p. e.size) e.first None c.args.parts.now) in
    let found = c.bad_part-place.ensures ∙ ap breaks c.entries.ensures.value in
    two_first _ _ _ c.from_residual.result (subst (λ o. Refuses (tried 18 o) c.in_err-tried.field-0.0) found c.in_err-tried.ensures.judged) c.from_residual.ensures.1

pub returns-clause-exact : goal.returns-clause-exact
unfolding parts_judged
returns-clause-exact c =
    let breaks : Entries → _ = λ e. break_of (λ i. keeps_part c.args.header.now.target c.args.words.now i.value i.next) (laid (λ p. e.size) e.first None c.args.parts.now) in
    let found = c.bad_part-place.ensures ∙ ap breaks c.entries.ensures.value in
    two_last _ _ c.judge_bounds.result (ap (tried 18) (sym found) ∙ c.in_ok-tried.ensures.judged) c.judge_bounds.ensures.exact
