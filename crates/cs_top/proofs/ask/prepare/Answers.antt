use Rattle.std.proofs.Common.{◌≡◌, ◌∙◌, inl, inr, refl, rules}
use Rattle.cs_indexing.specs.Met.{Wrote, held_bytes, AreHeld}
use Rattle.cs_indexing.specs.Views.{stop_ending}
use Rattle.cs_indexing.specs.declared.words.Form.TheVariants as forms
use Rattle.cs_indexing.specs.declared.words.HitForm.{HitForm}
use Rattle.cs_indexing.proofs.SizedFiles.{held_by}
use Rattle.cs_indexing.proofs.StopLemmas.{caused_by}
use Rattle.cs_top.specs.ScriptRuns.{AskEnds, AskStops}
use Rattle.cs_top.proofs.ScriptStops.{ask_absent, ask_refused}
use Rattle.cs_top.proofs.ask.prepare.Goals as goal

pub returns-in_err-size-clause-ends : goal.returns-in_err-size-clause-ends
returns-in_err-size-clause-ends g c =
    let all : (form : HitForm) (w : Wrote) → w.new ≡ w.old → AskEnds form (stop_ending c.in_err-size.field-0.0) c.args.collection.now c.args.script.now w =
    λ form w same. ask_absent c.args.collection.now c.args.script.now w c.in_err-size.field-0.0 same form c.args.collection.now c.in_err-size.ensures.absence (inl refl) in
    search rules

pub returns-in_err-script_size-clause-ends : goal.returns-in_err-script_size-clause-ends
returns-in_err-script_size-clause-ends g c =
    let all : (form : HitForm) (w : Wrote) → w.new ≡ w.old → AskEnds form (stop_ending c.in_err-script_size.field-0.0) c.args.collection.now c.args.script.now w =
    λ form w same. ask_absent c.args.collection.now c.args.script.now w c.in_err-script_size.field-0.0 same form c.args.script.now c.in_err-script_size.ensures.absence (inr refl) in
    search rules

pub returns-in_err-bytes-clause-ends : goal.returns-in_err-bytes-clause-ends
returns-in_err-bytes-clause-ends g c =
    let all : (form : HitForm) (w : Wrote) → w.new ≡ w.old → AskEnds form (stop_ending c.in_err-bytes.field-0.0) c.args.collection.now c.args.script.now w =
    λ form w same. ask_refused c.args.collection.now c.args.script.now w c.in_err-bytes.field-0.0 same form c.in_err-bytes.ensures.kind in
    search rules

pub returns-in_err-bytes-clause-stops : goal.returns-in_err-bytes-clause-stops
returns-in_err-bytes-clause-stops g c h held =
    let s = c.in_err-bytes.field-0.0 in
    let one = c.args.collection.now in
    let other = c.args.script.now in
    let here = c.in_ok-size.ensures.reads.files ∙ held in
    let there = c.in_ok-script_size.ensures.reads.files ∙ here in
    let both : AreHeld h one other = (held_by _ _ (c.in_ok-size.ensures.ok h held), held_by _ _ (c.in_ok-script_size.ensures.ok h here)) in
    let all : AskStops (stop_ending s) h one other =
    caused_by (λ e. AskStops e h one other) forms.Collection (held_bytes h one) s c.in_err-bytes.ensures.kind (c.in_err-bytes.ensures.cause h there) (λ r is. (both, is)) tt both in
    search rules
