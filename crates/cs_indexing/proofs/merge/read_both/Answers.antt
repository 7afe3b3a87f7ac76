use Rattle.std.proofs.Common.{◌≡◌, ◌∙◌, inl, inr, refl, rules}
use Rattle.cs_indexing.specs.Merge.{MergeEnds, MergeStops}
use Rattle.cs_indexing.specs.Met.{held_bytes, AreHeld}
use Rattle.cs_indexing.specs.Views.{stop_ending}
use Rattle.cs_indexing.proofs.SizedFiles.{held_by}
use Rattle.cs_indexing.proofs.StopLemmas.{absence_by, told_by, whole_by}
use Rattle.cs_indexing.proofs.merge.read_both.Goals as goal

pub returns-in_err-size-clause-ends : goal.returns-in_err-size-clause-ends
returns-in_err-size-clause-ends g c =
    let s = c.in_err-size.field-0.0 in
    let old = g.F.Files.held c.args.files.now in
    let new = g.F.Files.held c.told_size.new.files in
    let all : MergeEnds (stop_ending s) c.args.first.now c.args.second.now old new =
    absence_by (λ e. MergeEnds e c.args.first.now c.args.second.now old new) s c.args.first.now c.in_err-size.ensures.absence (inl refl, c.in_err-size.ensures.reads.files) tt in
    search rules

pub returns-in_err-second_size-clause-ends : goal.returns-in_err-second_size-clause-ends
returns-in_err-second_size-clause-ends g c =
    let s = c.in_err-second_size.field-0.0 in
    let old = g.F.Files.held c.args.files.now in
    let new = g.F.Files.held c.told_size-2.new.files in
    let all : MergeEnds (stop_ending s) c.args.first.now c.args.second.now old new =
    absence_by (λ e. MergeEnds e c.args.first.now c.args.second.now old new) s c.args.second.now c.in_err-second_size.ensures.absence (inr refl, c.in_err-second_size.ensures.reads.files ∙ c.in_ok-size.ensures.reads.files) tt in
    search rules

pub returns-in_err-a-clause-ends : goal.returns-in_err-a-clause-ends
returns-in_err-a-clause-ends g c =
    let s = c.in_err-a.field-0.0 in
    let old = g.F.Files.held c.args.files.now in
    let new = g.F.Files.held c.read_whole.new.files in
    let kept : new ≡ old = c.in_err-a.ensures.reads.files ∙ c.in_ok-second_size.ensures.reads.files ∙ c.in_ok-size.ensures.reads.files in
    let all : MergeEnds (stop_ending s) c.args.first.now c.args.second.now old new =
    whole_by (λ e. MergeEnds e c.args.first.now c.args.second.now old new) s c.in_err-a.ensures.kind (λ rule at. kept) kept tt tt in
    search rules

pub returns-in_err-b-clause-ends : goal.returns-in_err-b-clause-ends
returns-in_err-b-clause-ends g c =
    let s = c.in_err-b.field-0.0 in
    let old = g.F.Files.held c.args.files.now in
    let new = g.F.Files.held c.read_whole-2.new.files in
    let kept : new ≡ old = c.in_err-b.ensures.reads.files ∙ c.in_ok-a.ensures.reads.files ∙ c.in_ok-second_size.ensures.reads.files ∙ c.in_ok-size.ensures.reads.files in
    let all : MergeEnds (stop_ending s) c.args.first.now c.args.second.now old new =
    whole_by (λ e. MergeEnds e c.args.first.now c.args.second.now old new) s c.in_err-b.ensures.kind (λ rule at. kept) kept tt tt in
    search rules

pub returns-in_err-a-clause-stops : goal.returns-in_err-a-clause-stops
returns-in_err-a-clause-stops g c h held =
    let s = c.in_err-a.field-0.0 in
    let a = c.args.first.now in
    let b = c.args.second.now in
    let here = c.in_ok-size.ensures.reads.files ∙ held in
    let there = c.in_ok-second_size.ensures.reads.files ∙ here in
    let both : AreHeld h a b = (held_by _ _ (c.in_ok-size.ensures.ok h held), held_by _ _ (c.in_ok-second_size.ensures.ok h here)) in
    let all : MergeStops (stop_ending s) h a b =
    told_by (λ e. MergeStops e h a b) (held_bytes h a) s (c.in_err-a.ensures.cause h there) (λ rule at is. (both, inl is)) tt both in
    search rules

pub returns-in_err-b-clause-stops : goal.returns-in_err-b-clause-stops
returns-in_err-b-clause-stops g c h held =
    let s = c.in_err-b.field-0.0 in
    let a = c.args.first.now in
    let b = c.args.second.now in
    let here = c.in_ok-size.ensures.reads.files ∙ held in
    let there = c.in_ok-second_size.ensures.reads.files ∙ here in
    let both : AreHeld h a b = (held_by _ _ (c.in_ok-size.ensures.ok h held), held_by _ _ (c.in_ok-second_size.ensures.ok h here)) in
    let all : MergeStops (stop_ending s) h a b =
    told_by (λ e. MergeStops e h a b) (held_bytes h b) s (c.in_err-b.ensures.cause h (c.in_ok-a.ensures.reads.files ∙ there)) (λ rule at is. (both, inr (c.in_ok-a.ensures.accepted h there, is))) tt both in
    search rules

pub returns-clause-ok : goal.returns-clause-ok
returns-clause-ok g c h held =
    let here = c.in_ok-size.ensures.reads.files ∙ held in
    let there = c.in_ok-second_size.ensures.reads.files ∙ here in
    let last = c.in_ok-a.ensures.reads.files ∙ there in (
      ((held_by _ _ (c.in_ok-size.ensures.ok h held), held_by _ _ (c.in_ok-second_size.ensures.ok h here)), c.in_ok-a.ensures.accepted h there, c.in_ok-b.ensures.accepted h last),
      c.in_ok-a.ensures.ok h there,
      c.in_ok-b.ensures.ok h last,
    )
