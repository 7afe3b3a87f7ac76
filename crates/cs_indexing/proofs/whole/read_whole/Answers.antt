use Rattle.std.proofs.Common.{◌≡◌, ◌∙◌, ℕ, ap, false, true, refl, rules, subst}
use Rattle.std.specs.Prelude.{Some, Result, Err}
use Rattle.cs_base.specs.outside.Outside.{file_bytes}
use Rattle.cs_file.specs.CallAnswers.{is_changed}
use Rattle.cs_file.specs.declared.fault.FetchFault.{FetchFault}
use Rattle.cs_file.specs.declared.fault.FetchFault.TheVariants as fetches
use Rattle.cs_model_index.specs.Images.{Image}
use Rattle.cs_indexing.specs.Met.{held_bytes}
use Rattle.cs_indexing.specs.Views.{IsOfWhole, IsWholeCause}
use Rattle.cs_indexing.proofs.StopLemmas.{opened_cause, opened_kind}
use Rattle.cs_indexing.proofs.whole.read_whole.Goals as goal

pub returns-in_err-index-clause-kind : goal.returns-in_err-index-clause-kind
returns-in_err-index-clause-kind g c =
    let all : IsOfWhole c.in_err-index.field-0.0 = opened_kind c.in_err-index.field-0.0 c.in_err-index.ensures.kind in
    search rules

pub returns-in_err-index-clause-cause : goal.returns-in_err-index-clause-cause
returns-in_err-index-clause-cause g c h held =
    let all : IsWholeCause (held_bytes h c.args.file.name.now) c.in_err-index.field-0.0 =
    opened_cause (held_bytes h c.args.file.name.now) c.in_err-index.field-0.0 c.in_err-index.ensures.kind (c.in_err-index.ensures.damaged h held) in
    search rules

pub returns-in-Ok-clause-accepted : goal.returns-in-Ok-clause-accepted
returns-in-Ok-clause-accepted g c h held = (c.in_ok-index.ensures.ok h held).accepted

pub returns-in-Ok-clause-ok : goal.returns-in-Ok-clause-ok
returns-in-Ok-clause-ok g c h held =
    let told : file_bytes (g.F.Files.held c.new-store.result.files.now) c.new-store.result.name.now ≡ Some (held_bytes h c.args.file.name.now) =
    ap (λ n. file_bytes (g.F.Files.held c.new-store.result.files.now) n) c.new-store.ensures.name
    ∙ ap (λ f. file_bytes (g.F.Files.held f) c.args.file.name.now) c.new-store.ensures.files
    ∙ ap (λ x. file_bytes x c.args.file.name.now) (c.in_ok-index.ensures.reads.files ∙ held) in
    c.in-Ok.ensures.stood (held_bytes h c.args.file.name.now) told (c.in_ok-index.ensures.ok h held)

-- a change is one
unlike : {T : Type 0} (r : Result T FetchFault) (f : FetchFault) (rule at : ℕ) → r ≡ Err f → f ≡ fetches.Changed rule at → is_changed r ≡ false → ⊥
unlike r f rule at err is e = let wrong : true ≡ false = subst (λ x. is_changed x ≡ false) (err ∙ ap (λ x. Err x) is) e in absurd cc

pub returns-in-Err-Changed-clause-cause : goal.returns-in-Err-Changed-clause-cause
returns-in-Err-Changed-clause-cause g c h held =
    let told : file_bytes (g.F.Files.held c.new-store.result.files.now) c.new-store.result.name.now ≡ Some (held_bytes h c.args.file.name.now) =
    ap (λ n. file_bytes (g.F.Files.held c.new-store.result.files.now) n) c.new-store.ensures.name
    ∙ ap (λ f. file_bytes (g.F.Files.held f) c.args.file.name.now) c.new-store.ensures.files
    ∙ ap (λ x. file_bytes x c.args.file.name.now) (c.in_ok-index.ensures.reads.files ∙ held) in
    unlike {T = Image} (Err c.in-Err-Changed.field-0) c.in-Err-Changed.field-0 _ _ refl c.in-Err-Changed.field-0-is
    (c.in-Err-Changed.ensures.unchanged (held_bytes h c.args.file.name.now) told (c.in_ok-index.ensures.ok h held))
