use Rattle.std.proofs.Common.{inl, inr, refl, subst, sym}
use Rattle.cs_hub.specs.declared.outcomes.RequestOutcome.TheVariants.{Refused, Replied}
use Rattle.cs_json.specs.FaultTexts.{fault_text}
use Rattle.cs_json.specs.declared.fault.Fault.TheVariants as faults
use Rattle.cs_model.specs.Outputs.{memory_text, read_text}
use Rattle.cs_top.specs.HitForms.{shown_reply}
use Rattle.cs_top.specs.OutcomeTexts.{IsAnswerBy}
use Rattle.cs_top.specs.declared.script.answers.Answer.TheVariants as answers
use Rattle.cs_top.proofs.OutcomeTextLemmas.{change_line, text_line}
use Rattle.cs_top.proofs.script.answers.answer_by.Goals as goal

pub returns-in-Refused : goal.returns-in-Refused
returns-in-Refused c =
    let e = c.in-Refused.fault in
    let line = c.text_or_memory in
    subst (λ o. IsAnswerBy c.args.showing.now o line.result) (sym c.in-Refused.is)
    (text_line c.args.showing.now (Refused e) (fault_text (faults.Refused e)) c.fault_line.result line.result (inl refl) (inr refl) refl line.ensures.text line.ensures.memory c.fault_line.ensures)

pub returns-in-Replied : goal.returns-in-Replied
returns-in-Replied c =
    let q = c.in-Replied.request in
    let r = c.in-Replied.reply in
    let line = c.text_or_memory-in-Replied in
    subst (λ o. IsAnswerBy c.args.showing.now o line.result) (sym c.in-Replied.is)
    (text_line c.args.showing.now (Replied q r) (shown_reply c.args.showing.now q.query r) c.reply_line.result line.result (inl refl) (inr refl) refl line.ensures.text line.ensures.memory c.reply_line.ensures)

pub returns-in-Read : goal.returns-in-Read
returns-in-Read c =
    subst (λ o. IsAnswerBy c.args.showing.now o answers.Read) (sym c.in-Read.is) (record { text = read_text; is = refl; told = refl; came = refl; changed = λ i t h. tt })

pub returns-in-Changed : goal.returns-in-Changed
returns-in-Changed c =
    subst (λ o. IsAnswerBy c.args.showing.now o (answers.Changed c.ok.result)) (sym c.in-Changed.is)
    (change_line c.args.showing.now c.in-Changed.rule c.in-Changed.at c.fault_line-in-Changed.result c.ok.result c.ok.ensures.value c.fault_line-in-Changed.ensures)

pub returns-in-Memory : goal.returns-in-Memory
returns-in-Memory c =
    subst (λ o. IsAnswerBy c.args.showing.now o answers.Memory) (sym c.in-Memory.is) (record { text = memory_text; is = refl; told = refl; came = refl; changed = λ i t h. tt })
