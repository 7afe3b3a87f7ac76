use Rattle.std.proofs.Common.{◌==◌, None, ap, ◌∙◌}
use Rattle.std.specs.Option.{option_or}
use Rattle.cs_model.specs.First.{unless}
use Rattle.cs_model_index.specs.FileRules.{break_of, is_joined, laid, last_value, words_end}
use Rattle.cs_model_index.specs.Sections.{directory_at}
use Rattle.cs_model_index.specs.Layout.{entry_size}
use Rattle.cs_file.specs.declared.entries.Entries.{Entries}
use Rattle.cs_file.specs.HeaderView.{seen_header}
use Rattle.cs_file.specs.Opening.{bad_joint}
use Rattle.cs_file.proofs.directory.bad_joint.Goals as goal

pub returns : goal.returns
unfolding bad_joint
returns c =
    let hs = c.args.heads.now in
    let h = seen_header c.args.header.now in
    let end = words_end (last_value hs) in
    let first = c.bad_start.ensures ∙ ap (λ (e : Entries). break_of (λ i. is_joined i.last i.value) (laid (λ h. e.size) e.first None hs)) c.entries.ensures.value in
    let last = c.unless.ensures ∙ ap (λ n. unless (n == c.from.result) c.blocks_at.result) c.last_end.ensures
    ∙ ap (λ n. unless (end == n) c.blocks_at.result) c.from.ensures ∙ ap (unless (end == h.words)) c.blocks_at.ensures.value in
    c.or.ensures ∙ ap (λ o. option_or o c.unless.result) first
    ∙ ap (option_or (break_of (λ i. is_joined i.last i.value) (laid (λ x. entry_size h.two) (directory_at h) None hs))) last
