use Rattle.std.proofs.Common.{◌∙◌, inl, inr, rules, subst}
use Rattle.cs_base.specs.outside.Outside.{Sets, whole_file}
use Rattle.cs_model_index.specs.Layout.{file}
use Rattle.cs_indexing.specs.Build.{BuildWrites, IsBegun}
use Rattle.cs_indexing.specs.Merge.{MergeTold}
use Rattle.cs_indexing.specs.Views.{stop_ending}
use Rattle.cs_indexing.proofs.BuildLemmas.{cut_by}
use Rattle.cs_indexing.proofs.merge.merge_indexes.Goals as goal

pub returns-in_err-image-clause-told : goal.returns-in_err-image-clause-told
returns-in_err-image-clause-told g c h held =
    let s = c.in_err-image.field-0.0 in
    let all : MergeTold (stop_ending s) h c.args.first.now c.args.second.now c.args.new.now (g.F.Files.held c.read_merged.new.files) =
    inl (c.in_err-image.ensures.stops h held, c.in_err-image.ensures.reads.files ∙ held) in
    search rules

pub returns-clause-told : goal.returns-clause-told
returns-clause-told g c h held =
    let now = g.F.Files.held c.save.new.files in
    inr (
      c.in_ok-image.image,
      c.in_ok-image.ensures.ok h held,
      subst (λ old. Sets old c.args.new.now (λ _. whole_file (file c.in_ok-image.image)) now) (c.in_ok-image.ensures.reads.files ∙ held) c.in_ok-save.ensures.ok,
    )

pub returns-in_err-save-clause-told : goal.returns-in_err-save-clause-told
returns-in_err-save-clause-told g c h held =
    let s = c.in_err-save.field-0.0 in
    let now = g.F.Files.held c.save.new.files in
    let cut : BuildWrites (stop_ending s) h c.args.new.now c.in_ok-image.image now =
    cut_by s h c.args.new.now c.in_ok-image.image now c.in_err-save.ensures.kind (subst (λ old. IsBegun old c.args.new.now (file c.in_ok-image.image) now) (c.in_ok-image.ensures.reads.files ∙ held) c.in_err-save.ensures.err) in
    let all : MergeTold (stop_ending s) h c.args.first.now c.args.second.now c.args.new.now now = inr (c.in_ok-image.image, c.in_ok-image.ensures.ok h held, cut) in
    search rules
