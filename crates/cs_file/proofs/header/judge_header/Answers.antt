use Rattle.std.proofs.Common.{◌==◌, ap, sym, ◌∙◌}
use Rattle.cs_model.specs.First.{unless, first_reason}
use Rattle.cs_model_index.specs.FileRules.{field_breaks}
use Rattle.cs_model_index.specs.Layout.{Header}
use Rattle.cs_model_index.specs.Sections.{size_by}
use Rattle.cs_file.specs.HeaderView.{seen_header}
use Rattle.cs_file.proofs.HeaderLemmas.{refused_magic, refused_field, refused_size, header_fine, ranges}
use Rattle.cs_file.proofs.StagesLemmas.{judged_along}
use Rattle.cs_file.proofs.header.judge_header.Goals as goal

pub returns-in_err-tried-clause-exact : goal.returns-in_err-tried-clause-exact
returns-in_err-tried-clause-exact c =
    judged_along _ _ c.from_residual.result (refused_magic c.args.bytes.now c.args.size c.unless.result _
    (c.unless.ensures ∙ ap (λ b. unless b 0) c.is_known.ensures) c.in_err-tried.ensures.judged) c.from_residual.ensures.1

pub returns-in_err-tried-2-clause-exact : goal.returns-in_err-tried-2-clause-exact
returns-in_err-tried-2-clause-exact c =
    let field = c.broken_field.ensures ∙ ap (λ (h : Header). first_reason (field_breaks h)) c.header_in-header.ensures.numbers in
    judged_along _ _ c.from_residual-in_err-tried-2.result
    (refused_field c.args.bytes.now c.args.size c.unless.result c.broken_field.result _ (c.unless.ensures ∙ ap (λ b. unless b 0) c.is_known.ensures)
    c.in_ok-tried.ensures.judged field c.in_err-tried-2.ensures.judged) c.from_residual-in_err-tried-2.ensures.1

pub returns-in_err-tried-3-clause-exact : goal.returns-in_err-tried-3-clause-exact
returns-in_err-tried-3-clause-exact c =
    let field = c.broken_field.ensures ∙ ap (λ (h : Header). first_reason (field_breaks h)) c.header_in-header.ensures.numbers in
    let size = c.unless-2.ensures ∙ ap (λ n. unless (c.args.size == n) c.args.size)
    (c.size.ensures.value ∙ ap (λ (h : Header). size_by h) c.header_in-header.ensures.numbers) in
    judged_along _ _ c.from_residual-in_err-tried-3.result
    (refused_size c.args.bytes.now c.args.size c.unless.result c.broken_field.result c.unless-2.result _
    (c.unless.ensures ∙ ap (λ b. unless b 0) c.is_known.ensures) c.in_ok-tried.ensures.judged field c.in_ok-tried-2.ensures.judged size
    c.in_err-tried-3.ensures.judged) c.from_residual-in_err-tried-3.ensures.1

pub returns-clause-exact : goal.returns-clause-exact
returns-clause-exact c =
    let field = c.broken_field.ensures ∙ ap (λ (h : Header). first_reason (field_breaks h)) c.header_in-header.ensures.numbers in
    let size = c.unless-2.ensures ∙ ap (λ n. unless (c.args.size == n) c.args.size)
    (c.size.ensures.value ∙ ap (λ (h : Header). size_by h) c.header_in-header.ensures.numbers) in
    header_fine c.args.bytes.now c.args.size c.unless.result c.broken_field.result c.unless-2.result (c.unless.ensures ∙ ap (λ b. unless b 0) c.is_known.ensures)
    c.in_ok-tried.ensures.judged field c.in_ok-tried-2.ensures.judged size c.in_ok-tried-3.ensures.judged

pub returns-clause-ranges : goal.returns-clause-ranges
returns-clause-ranges c =
    let small = c.header_in-header.ensures.small in
    ranges (seen_header c.header_in-header.result) c.broken_field.result c.broken_field.ensures c.in_ok-tried-2.ensures.judged small.0 small.1 small.2

pub returns-clause-numbers : goal.returns-clause-numbers
returns-clause-numbers c = sym c.header_in-header.ensures.numbers
