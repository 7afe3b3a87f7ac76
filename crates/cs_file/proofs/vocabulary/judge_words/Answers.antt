use Rattle.std.proofs.Common.{None, sym, ap, subst, ◌∙◌}
use Rattle.cs_model_index.specs.FileRules.{break_of, is_word, follows, laid, tried, word_size}
use Rattle.cs_model_index.specs.Sections.{vocabulary_at}
use Rattle.cs_file.specs.Opening.{Refuses, Judges, words_judged}
use Rattle.cs_file.proofs.StagesLemmas.{two_first, two_last}
use Rattle.cs_file.proofs.vocabulary.judge_words.Goals as goal

pub returns-in_err-tried-clause-exact : goal.returns-in_err-tried-clause-exact
unfolding words_judged
returns-in_err-tried-clause-exact c =
    two_first (tried 6 (break_of (λ i. is_word i.value) (laid word_size vocabulary_at None c.args.words.now))) _ _ c.from_residual.result
    (subst (λ o. Refuses (tried 6 o) c.in_err-tried.field-0.0) c.bad_word.ensures c.in_err-tried.ensures.judged) c.from_residual.ensures.1

pub returns-clause-exact : goal.returns-clause-exact
unfolding words_judged
returns-clause-exact c =
    two_last (tried 6 (break_of (λ i. is_word i.value) (laid word_size vocabulary_at None c.args.words.now)))
    (tried 7 (break_of (λ i. follows i.last i.value) (laid word_size vocabulary_at None c.args.words.now))) c.tried-2.result
    (ap (tried 6) (sym c.bad_word.ensures) ∙ c.in_ok-tried.ensures.judged)
    (subst (λ o. Judges (tried 7 o) c.tried-2.result) c.bad_order.ensures c.tried-2.ensures.judged)
