use Rattle.std.proofs.Common.{◌≡◌, ◌∙◌, inl, inr, subst, rules}
use Rattle.std.specs.Prelude.{Some}
use Rattle.std.specs.FinMap as map
use Rattle.cs_base.specs.outside.Outside.{Held, IsHeld, Sets, whole_file}
use Rattle.cs_model_index.specs.Layout.{file}
use Rattle.cs_indexing.specs.Build.{BuildEnds, BuildStops, BuildTold, HasImage, IsBegun}
use Rattle.cs_indexing.specs.Met.{held_bytes}
use Rattle.cs_indexing.specs.Views.{stop_ending}
use Rattle.cs_indexing.proofs.BuildLemmas.{cut_by}
use Rattle.cs_indexing.proofs.SizedFiles.{held_by}
use Rattle.cs_indexing.proofs.StopLemmas.{caused_by, source_by}
use Rattle.cs_indexing.proofs.build.build_index.Given as given
use Rattle.cs_indexing.proofs.build.build_index.Goals as goal
use Rattle.cs_indexing.proofs.build.build_index.Goals.{In_ok-image}

-- over files that hold h: after the source was read they hold the same
same : (g : given.Over) (c : In_ok-image g) (h : Held) → g.F.Files.held c.args.files.now ≡ Some h → g.F.Files.held c.source_image.new.files ≡ Some h
same g c h held = c.in_ok-image.ensures.reads.files ∙ c.in_ok-size.ensures.reads.files ∙ held

-- what was read is the image of the source's collection
has : (g : given.Over) (c : In_ok-image g) (h : Held) → g.F.Files.held c.args.files.now ≡ Some h → HasImage c.args.form h c.args.source.now c.in_ok-image.image
has g c h held =
    let here : g.F.Files.held c.told_size.new.files ≡ Some h = c.in_ok-size.ensures.reads.files ∙ held in
    ((held_by _ _ (c.in_ok-size.ensures.ok h held), c.in_ok-image.ensures.accepted h here), (c.in_ok-image.ensures.ok h here).image)

pub returns-in_err-image-clause-ends : goal.returns-in_err-image-clause-ends
returns-in_err-image-clause-ends g c =
    let s = c.in_err-image.field-0.0 in
    let all : BuildEnds c.args.form (stop_ending s) c.args.source.now = source_by (λ e. BuildEnds c.args.form e c.args.source.now) c.args.form s c.in_err-image.ensures.kind (λ r has. has) tt tt in
    search rules

pub returns-in_err-image-clause-told : goal.returns-in_err-image-clause-told
returns-in_err-image-clause-told g c h held =
    let s = c.in_err-image.field-0.0 in
    let here : g.F.Files.held c.told_size.new.files ≡ Some h = c.in_ok-size.ensures.reads.files ∙ held in
    let there : IsHeld (map.get h c.args.source.now) = held_by _ _ (c.in_ok-size.ensures.ok h held) in
    let stops : BuildStops c.args.form (stop_ending s) h c.args.source.now =
    caused_by (λ e. BuildStops c.args.form e h c.args.source.now) c.args.form (held_bytes h c.args.source.now) s c.in_err-image.ensures.kind (c.in_err-image.ensures.cause h here) (λ r is. (there, is)) tt there in
    let all : BuildTold c.args.form (stop_ending s) h c.args.source.now c.args.index.now (g.F.Files.held c.source_image.new.files) = inl (stops, c.in_err-image.ensures.reads.files ∙ here) in
    search rules

pub returns-clause-told : goal.returns-clause-told
returns-clause-told g c h held =
    let made = (goal.at.returns-clause-told g c).In_ok-image in
    let x = c.in_ok-image.image in
    inr (
      x,
      has g made h held,
      subst (λ old. Sets old c.args.index.now (λ _. whole_file (file x)) (g.F.Files.held c.save.new.files)) (same g made h held) c.in_ok-save.ensures.ok,
    )

pub returns-in_err-save-clause-told : goal.returns-in_err-save-clause-told
returns-in_err-save-clause-told g c h held =
    let made = (goal.at.returns-in_err-save-clause-told g c).In_ok-image in
    let x = c.in_ok-image.image in
    let all : BuildTold c.args.form (stop_ending c.in_err-save.field-0.0) h c.args.source.now c.args.index.now (g.F.Files.held c.save.new.files) =
    inr (x, has g made h held, cut_by c.in_err-save.field-0.0 h c.args.index.now x _ c.in_err-save.ensures.kind (subst (λ old. IsBegun old c.args.index.now (file x) (g.F.Files.held c.save.new.files)) (same g made h held) c.in_err-save.ensures.err)) in
    search rules
