use Rattle.std.proofs.Common.{◌≡◌, ◌∙◌, inl, inr, refl, rules, subst}
use Rattle.std.specs.Prelude.{Some}
use Rattle.std.specs.FinMap as map
use Rattle.cs_base.specs.outside.Outside.{Held, IsHeld, Sets, whole_file}
use Rattle.cs_model_index.specs.Images.{Image}
use Rattle.cs_model_index.specs.Layout.{file}
use Rattle.cs_model_index.specs.Sections.{image_of}
use Rattle.cs_indexing.specs.Build.{BuildWrites, IsBegun}
use Rattle.cs_indexing.specs.CommandLine.{done}
use Rattle.cs_indexing.specs.Met.{held_bytes}
use Rattle.cs_indexing.specs.Upgrade.{CanUpgrade, UpgradeEnds, UpgradeStops, UpgradeTold}
use Rattle.cs_indexing.specs.Views.{stop_ending}
use Rattle.cs_indexing.proofs.BuildLemmas.{cut_by}
use Rattle.cs_indexing.proofs.SizedFiles.{held_by}
use Rattle.cs_indexing.proofs.StopLemmas.{absence_by, told_by, whole_by}
use Rattle.cs_indexing.proofs.upgrade.upgrade_index.Given as given
use Rattle.cs_indexing.proofs.upgrade.upgrade_index.Goals as goal
use Rattle.cs_indexing.proofs.upgrade.upgrade_index.Goals.{In_ok-image}

-- over files that hold h: after the index was read they hold the same
same : (g : given.Over) (c : In_ok-image g) (h : Held) → g.F.Files.held c.args.files.now ≡ Some h → g.F.Files.held c.read_whole.new.files ≡ Some h
same g c h held = c.in_ok-image.ensures.reads.files ∙ c.in_ok-size.ensures.reads.files ∙ held

-- the index is held and accepted
can : (g : given.Over) (c : In_ok-image g) (h : Held) → g.F.Files.held c.args.files.now ≡ Some h → CanUpgrade h c.args.index.now
can g c h held =
    (held_by _ _ (c.in_ok-size.ensures.ok h held), c.in_ok-image.ensures.accepted h (c.in_ok-size.ensures.reads.files ∙ held))

-- what was read is its image
read : (g : given.Over) (c : In_ok-image g) (h : Held) → g.F.Files.held c.args.files.now ≡ Some h → c.in_ok-image.image ≡ image_of (held_bytes h c.args.index.now)
read g c h held = c.in_ok-image.ensures.ok h (c.in_ok-size.ensures.reads.files ∙ held)

pub returns-in_err-size-clause-ends : goal.returns-in_err-size-clause-ends
returns-in_err-size-clause-ends g c =
    let s = c.in_err-size.field-0.0 in
    let old = g.F.Files.held c.args.files.now in
    let new = g.F.Files.held c.told_size.new.files in
    let all : UpgradeEnds (stop_ending s) c.args.index.now old new = absence_by (λ e. UpgradeEnds e c.args.index.now old new) s c.args.index.now c.in_err-size.ensures.absence (refl, c.in_err-size.ensures.reads.files) tt in
    search rules

pub returns-in_err-image-clause-ends : goal.returns-in_err-image-clause-ends
returns-in_err-image-clause-ends g c =
    let s = c.in_err-image.field-0.0 in
    let old = g.F.Files.held c.args.files.now in
    let new = g.F.Files.held c.read_whole.new.files in
    let kept : new ≡ old = c.in_err-image.ensures.reads.files ∙ c.in_ok-size.ensures.reads.files in
    let all : UpgradeEnds (stop_ending s) c.args.index.now old new = whole_by (λ e. UpgradeEnds e c.args.index.now old new) s c.in_err-image.ensures.kind (λ rule at. kept) kept tt tt in
    search rules

pub returns-in_err-image-clause-told : goal.returns-in_err-image-clause-told
returns-in_err-image-clause-told g c h held =
    let s = c.in_err-image.field-0.0 in
    let here : g.F.Files.held c.told_size.new.files ≡ Some h = c.in_ok-size.ensures.reads.files ∙ held in
    let there : IsHeld (map.get h c.args.index.now) = held_by _ _ (c.in_ok-size.ensures.ok h held) in
    let stops : UpgradeStops (stop_ending s) h c.args.index.now =
    told_by (λ e. UpgradeStops e h c.args.index.now) (held_bytes h c.args.index.now) s (c.in_err-image.ensures.cause h here) (λ rule at is. (there, is)) tt there in
    let all : UpgradeTold (stop_ending s) h c.args.index.now c.args.new.now (g.F.Files.held c.read_whole.new.files) = inl (stops, c.in_err-image.ensures.reads.files ∙ here) in
    search rules

pub returns-clause-told : goal.returns-clause-told
returns-clause-told g c h held =
    let made = (goal.at.returns-clause-told g c).In_ok-image in
    let now = g.F.Files.held c.save.new.files in
    let whole : BuildWrites done h c.args.new.now c.in_ok-image.image now = subst (λ old. Sets old c.args.new.now (λ _. whole_file (file c.in_ok-image.image)) now) (same g made h held) c.in_ok-save.ensures.ok in
    inr (can g made h held, subst (λ (x : Image). BuildWrites done h c.args.new.now x now) (read g made h held) whole)

pub returns-in_err-save-clause-told : goal.returns-in_err-save-clause-told
returns-in_err-save-clause-told g c h held =
    let made = (goal.at.returns-in_err-save-clause-told g c).In_ok-image in
    let s = c.in_err-save.field-0.0 in
    let now = g.F.Files.held c.save.new.files in
    let cut : BuildWrites (stop_ending s) h c.args.new.now c.in_ok-image.image now =
    cut_by s h c.args.new.now c.in_ok-image.image now c.in_err-save.ensures.kind (subst (λ old. IsBegun old c.args.new.now (file c.in_ok-image.image) now) (same g made h held) c.in_err-save.ensures.err) in
    let all : UpgradeTold (stop_ending s) h c.args.index.now c.args.new.now now = inr (can g made h held, subst (λ (x : Image). BuildWrites (stop_ending s) h c.args.new.now x now) (read g made h held) cut) in
    search rules
