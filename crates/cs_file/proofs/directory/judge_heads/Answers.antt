use Rattle.std.proofs.Common.{None, sym, ap, subst, ◌∙◌}
use Rattle.cs_model_index.specs.FileRules.{break_of, is_of_one_kind, laid, tried}
use Rattle.cs_file.specs.declared.entries.Entries.{Entries}
use Rattle.cs_file.specs.Opening.{Refuses, Judges, directory_judged}
use Rattle.cs_file.proofs.StagesLemmas.{three_first, three_second, three_last}
use Rattle.cs_file.proofs.directory.judge_heads.Goals as goal

pub returns-in_err-tried-clause-exact : goal.returns-in_err-tried-clause-exact
unfolding directory_judged
returns-in_err-tried-clause-exact c =
    three_first _ _ _ c.in_err-tried.field-0.0 c.from_residual.result
    (subst (λ o. Refuses (tried 10 o) c.in_err-tried.field-0.0) c.bad_joint.ensures c.in_err-tried.ensures.judged) c.from_residual.ensures.1

pub returns-in_err-tried-2-clause-exact : goal.returns-in_err-tried-2-clause-exact
unfolding directory_judged
returns-in_err-tried-2-clause-exact c =
    let kinds = c.bad_kind.ensures ∙ ap (λ (e : Entries). break_of (λ i. is_of_one_kind c.args.words.now i.value) (laid (λ h. e.size) e.first None c.args.heads.now))
    c.entries.ensures.value in
    three_second _ _ _ c.in_err-tried-2.field-0.0 c.from_residual-in_err-tried-2.result
    (ap (tried 10) (sym c.bad_joint.ensures) ∙ c.in_ok-tried.ensures.judged)
    (subst (λ o. Refuses (tried 11 o) c.in_err-tried-2.field-0.0) kinds c.in_err-tried-2.ensures.judged) c.from_residual-in_err-tried-2.ensures.1

pub returns-clause-exact : goal.returns-clause-exact
unfolding directory_judged
returns-clause-exact c =
    let kinds = c.bad_kind.ensures ∙ ap (λ (e : Entries). break_of (λ i. is_of_one_kind c.args.words.now i.value) (laid (λ h. e.size) e.first None c.args.heads.now))
    c.entries.ensures.value in
    three_last _ _ _ c.tried-3.result (ap (tried 10) (sym c.bad_joint.ensures) ∙ c.in_ok-tried.ensures.judged)
    (ap (tried 11) (sym kinds) ∙ c.in_ok-tried-2.ensures.judged)
    (subst (λ o. Judges (tried 12 o) c.tried-3.result) c.bad_size.ensures c.tried-3.ensures.judged)
