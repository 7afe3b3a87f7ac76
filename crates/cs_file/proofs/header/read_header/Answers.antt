use Rattle.std.proofs.Common.{◌≡◌, ap, ◌∙◌}
use Rattle.std.specs.Prelude.{nat_le}
use Rattle.cs_model.specs.First.{unless}
use Rattle.cs_model_index.specs.Sections.{header_of, size_by}
use Rattle.cs_file.specs.HeaderView.{seen_header}
use Rattle.cs_file.specs.Opening.{HasHeader}
use Rattle.cs_file.proofs.HeaderLemmas.{refused_short, rest_is, header_told}
use Rattle.cs_file.proofs.StagesLemmas.{judged_along, judges_by, caused_along, if_ok_both}
use Rattle.cs_file.proofs.header.read_header.Goals as goal

pub returns-in_err-tried-clause-exact : goal.returns-in_err-tried-clause-exact
returns-in_err-tried-clause-exact g c = λ b t.
    let short = c.unless.ensures ∙ ap (λ n. unless (nat_le n c.in-Ok.size) c.in-Ok.size) c.from.ensures in
    judged_along _ _ c.from_residual.result (refused_short b c.in-Ok.size c.unless.result _ (c.in-Ok.ensures.ok b t) short c.in_err-tried.ensures.judged)
    c.from_residual.ensures.1

pub returns-in_err-tried-clause-caused : goal.returns-in_err-tried-clause-caused
returns-in_err-tried-clause-caused g c = caused_along _ c.from_residual.result _ _ c.in_err-tried.ensures.unread c.from_residual.ensures.1
    c.in-Ok.ensures.counted.quiet

pub returns-in_err-bytes-clause-exact : goal.returns-in_err-bytes-clause-exact
returns-in_err-bytes-clause-exact g c = λ b t. judged_along _ _ c.from_residual-in_err-bytes.result (c.in_err-bytes.ensures.err _)
    c.from_residual-in_err-bytes.ensures.1

pub returns-clause-exact : goal.returns-clause-exact
returns-clause-exact g c = λ b t.
    let short = c.unless.ensures ∙ ap (λ n. unless (nat_le n c.in-Ok.size) c.in-Ok.size) c.from.ensures in
    let at = c.deref.ensures.value ∙ c.in_ok-bytes.ensures.ok b (c.in-Ok.ensures.same ∙ t) in
    judges_by _ _ c.judge_header.result (rest_is b c.deref.result.now c.in-Ok.size c.unless.result (c.in-Ok.ensures.ok b t) short
    c.in_ok-tried.ensures.judged at) c.judge_header.ensures.exact

pub returns-clause-told : goal.returns-clause-told
returns-clause-told g c =
    if_ok_both c.judge_header.result (λ h. header_of c.deref.result.now ≡ seen_header h) (λ h. c.in-Ok.size ≡ size_by (seen_header h))
    (λ h. HasHeader (g.S.Store.bytes c.args.store.now) (seen_header h))
    (λ h numbers size b t. header_told b c.deref.result.now c.in-Ok.size (seen_header h) (c.in-Ok.ensures.ok b t)
    (c.deref.ensures.value ∙ c.in_ok-bytes.ensures.ok b (c.in-Ok.ensures.same ∙ t)) numbers size)
    c.judge_header.ensures.numbers c.judge_header.ensures.size
