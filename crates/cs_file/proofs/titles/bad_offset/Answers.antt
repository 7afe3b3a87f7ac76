use Rattle.std.proofs.Common.{◌≡◌, ◌==◌, ◌+◌, ◌*◌, None, ap, ◌∙◌}
use Rattle.std.specs.Option.{option_or, unwrap_or}
use Rattle.cs_model.specs.First.{unless}
use Rattle.cs_model_index.specs.FileRules.{break_of, is_onward, laid, last_offset_at, last_value}
use Rattle.cs_model_index.specs.declared.limits.TheConstants.{NUMBER_BYTES}
use Rattle.cs_file.specs.HeaderView.{seen_header}
use Rattle.cs_file.specs.Opening.{bad_offset}
use Rattle.cs_file.proofs.titles.bad_offset.Goals as goal

pub returns : goal.returns
unfolding bad_offset
returns c =
    let os = c.args.offsets.now in
    let h = seen_header c.args.header.now in
    let end = unwrap_or (last_value os) 0 in
    let first = c.bad_step.ensures ∙ ap (λ n. break_of (λ i. is_onward i.last i.value) (laid (λ o. NUMBER_BYTES) n None os)) c.offsets_at-first.ensures.value in
    let place : c.offsets_at-first.result + c.from.result * c.from-2.result ≡ last_offset_at h =
    ap (λ n. n + c.from.result * c.from-2.result) c.offsets_at-first.ensures.value
    ∙ ap (λ n. Rattle.cs_model_index.specs.Sections.offsets_at h + n * c.from-2.result) c.from.ensures
    ∙ ap (λ n. Rattle.cs_model_index.specs.Sections.offsets_at h + 4 * n) c.from-2.ensures in
    let last = c.unless.ensures ∙ ap (λ n. unless (n == h.titles_len) (c.offsets_at-first.result + c.from.result * c.from-2.result)) c.last.ensures
    ∙ ap (unless (end == h.titles_len)) place in
    c.or.ensures ∙ ap (λ o. option_or o c.unless.result) first
    ∙ ap (option_or (break_of (λ i. is_onward i.last i.value) (laid (λ o. NUMBER_BYTES) (Rattle.cs_model_index.specs.Sections.offsets_at h) None os))) last
