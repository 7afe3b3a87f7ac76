use Rattle.std.proofs.Common.{◌==◌, ◌&&◌, None, ap, ◌∙◌}
use Rattle.std.specs.List.{sum_by}
use Rattle.std.specs.Option.{option_or}
use Rattle.cs_model.specs.First.{unless}
use Rattle.cs_model_index.specs.FileRules.{break_of, is_sized, laid}
use Rattle.cs_model_index.specs.Sections.{directory_at}
use Rattle.cs_model_index.specs.Layout.{entry_size}
use Rattle.cs_file.specs.declared.entries.Entries.{Entries}
use Rattle.cs_file.specs.HeaderView.{seen_header}
use Rattle.cs_file.specs.Opening.{bad_size}
use Rattle.cs_file.proofs.directory.bad_size.Goals as goal

pub returns : goal.returns
unfolding bad_size
returns c =
    let hs = c.args.heads.now in
    let h = seen_header c.args.header.now in
    let sums = sum_by (λ h. h.rows) hs == h.rows && sum_by (λ h. h.len) hs == h.blocks_len in
    let first = c.bad_shape.ensures ∙ ap (λ (e : Entries). break_of (λ i. is_sized i.value) (laid (λ h. e.size) e.first None hs)) c.entries.ensures.value in
    let last = c.unless.ensures ∙ ap (λ b. unless b c.blocks_at.result) c.has_sums-sums.ensures ∙ ap (unless sums) c.blocks_at.ensures.value in
    c.or.ensures ∙ ap (λ o. option_or o c.unless.result) first
    ∙ ap (option_or (break_of (λ i. is_sized i.value) (laid (λ x. entry_size h.two) (directory_at h) None hs))) last
