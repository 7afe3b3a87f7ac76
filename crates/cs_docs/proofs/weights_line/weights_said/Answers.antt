use Rattle.std.proofs.Common.{rules, ◌≡◌, ◌∷◌, [], sym, ap, ◌∙◌}
use Rattle.std.specs.Prelude.{None}
use Rattle.cs_model.specs.Weights.{weights_said}
use Rattle.cs_docs.proofs.WeightsLemmas.{cut_said, no_space, said_by, three_pieces, told_none, told_some, too_many_pieces}
use Rattle.cs_docs.proofs.weights_line.weights_said.Goals as goal

pub returns-in_err-word : goal.returns-in_err-word
returns-in_err-word c =
    let line = c.args.line.now in
    let said : weights_said line ≡ None = said_by line (line ∷ []) (no_space line c.in_err-word.ensures) in
    search rules

pub returns-in_err-title : goal.returns-in_err-title
returns-in_err-title c =
    let line = c.args.line.now in
    let word = c.in_ok-word.word.now in
    let rest = c.in_ok-word.rest.now in
    let first = cut_said line word rest c.in_ok-word.ensures.0 c.in_ok-word.ensures.1 c.in_ok-word.ensures.2 in
    let said : weights_said line ≡ None = said_by line (word ∷ rest ∷ []) (first ∙ ap (λ ps. word ∷ ps) (no_space rest c.in_err-title.ensures)) in
    search rules

pub returns-in_err-facet : goal.returns-in_err-facet
returns-in_err-facet c =
    let line = c.args.line.now in
    let word = c.in_ok-word.word.now in
    let rest = c.in_ok-word.rest.now in
    let title = c.in_ok-title.title.now in
    let more = c.in_ok-title.rest.now in
    let first = cut_said line word rest c.in_ok-word.ensures.0 c.in_ok-word.ensures.1 c.in_ok-word.ensures.2 in
    let second = cut_said rest title more c.in_ok-title.ensures.0 c.in_ok-title.ensures.1 c.in_ok-title.ensures.2 in
    let said : weights_said line ≡ None = said_by line (word ∷ title ∷ more ∷ []) (first ∙ ap (λ ps. word ∷ ps) second ∙ ap (λ ps. word ∷ title ∷ ps) (no_space more c.in_err-facet.ensures)) in
    search rules

pub returns-then-is_some : goal.returns-then-is_some
returns-then-is_some c =
    let line = c.args.line.now in
    let word = c.in_ok-word.word.now in
    let rest = c.in_ok-word.rest.now in
    let title = c.in_ok-title.title.now in
    let more = c.in_ok-title.rest.now in
    let facet = c.in_ok-facet.facet.now in
    let text = c.in_ok-facet.text.now in
    let first = cut_said line word rest c.in_ok-word.ensures.0 c.in_ok-word.ensures.1 c.in_ok-word.ensures.2 in
    let second = cut_said rest title more c.in_ok-title.ensures.0 c.in_ok-title.ensures.1 c.in_ok-title.ensures.2 in
    let third = cut_said more facet text c.in_ok-facet.ensures.0 c.in_ok-facet.ensures.1 c.in_ok-facet.ensures.2 in
    let found = told_some c.cut_at-4.result _ _ c.cut_at-4.ensures (sym c.if-is_some.ensures) in
    sym (
    said_by line _ (three_pieces line word rest title more facet text first second third)
    ∙ too_many_pieces word title facet text found.1.0)

pub returns : goal.returns
returns c =
    let line = c.args.line.now in
    let word = c.in_ok-word.word.now in
    let rest = c.in_ok-word.rest.now in
    let title = c.in_ok-title.title.now in
    let more = c.in_ok-title.rest.now in
    let facet = c.in_ok-facet.facet.now in
    let text = c.in_ok-facet.text.now in
    let first = cut_said line word rest c.in_ok-word.ensures.0 c.in_ok-word.ensures.1 c.in_ok-word.ensures.2 in
    let second = cut_said rest title more c.in_ok-title.ensures.0 c.in_ok-title.ensures.1 c.in_ok-title.ensures.2 in
    let third = cut_said more facet text c.in_ok-facet.ensures.0 c.in_ok-facet.ensures.1 c.in_ok-facet.ensures.2 in
    let last = no_space text (told_none c.cut_at-4.result _ _ c.cut_at-4.ensures (sym c.if-is_some.ensures)) in
    c.weights_in.ensures
    ∙ sym (said_by line _ (three_pieces line word rest title more facet text first second third ∙ ap (λ ps. word ∷ title ∷ facet ∷ ps) last))
