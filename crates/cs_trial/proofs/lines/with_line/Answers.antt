use Rattle.std.proofs.Common.{◌≡◌, ◌∙◌, ◌++◌, ap, take, arith}
use Rattle.std.specs.Prelude.{codes}
use Rattle.cs_model_trial.specs.Generator.{behind, next_state}
use Rattle.cs_trial.proofs.TrialLineLemmas.{line_is, behind_line}
use Rattle.cs_trial.proofs.lines.with_line.Goals as goal

pub returns-clause-bytes : goal.returns-clause-bytes
returns-clause-bytes c =
    let all : c.loop-byte.byte-index ≡ 6 = omega (arith, c.loop-byte-test.false, c.loop-byte.auto.byte-index-end) in
    let kind : c.loop-byte.line.items ≡ c.with_words-line.result.items ++ codes "\tkind=" = c.loop-byte.invariant.bytes ∙ ap (λ k. c.with_words-line.result.items ++ take k (codes "\tkind=")) all in
    let told = c.push_reserved-3.ensures.items in
    let text = c.with_words-line-2.ensures.bytes in
    let tab = c.push_reserved-2.ensures.items in
    let facet = c.with_syllable-line.ensures.items in
    let title = c.with_words-line.ensures.bytes in
    rw (told, text, tab, facet, kind, title, c.below.ensures.value, c.below.ensures.state, c.with_words-line.ensures.state)
    (line_is c.args.bytes.items c.args.numbers.now.state)

pub returns-clause-state : goal.returns-clause-state
returns-clause-state c =
    c.with_words-line-2.ensures.state ∙ ap (behind 12) (c.below.ensures.state ∙ ap next_state c.with_words-line.ensures.state) ∙ behind_line c.args.numbers.now.state
