use Rattle.std.proofs.Common.{◌+◌, ◌∷◌, rules, sym, subst, length}
use Rattle.std.specs.Str.Lines.{lines}
use Rattle.cs_docs.specs.FaultRefusals.{IsCauseOf, refusal_from}
use Rattle.cs_docs.proofs.LinesLemmas.{cause_next}
use Rattle.cs_docs.proofs.reader.docs_behind.Goals as goal

pub returns-in_err-push_document-clause-err : goal.returns-in_err-push_document-clause-err
returns-in_err-push_document-clause-err c =
    let d = length c.loop-rest.docs.items in
    let n = c.loop-rest.number + 1 in
    let e = c.in_err-push_document.field-0.0 in
    let here : IsCauseOf (refusal_from d n (c.first_line.result.0.now ∷ lines c.first_line.result.1.now)) e = cause_next d n c.first_line.result.0.now (lines c.first_line.result.1.now) e c.in_err-push_document.ensures.err in
    let next : IsCauseOf (refusal_from d n (lines c.loop-rest.rest.now)) e = subst (λ ls. IsCauseOf (refusal_from d n ls) e) (sym c.first_line.ensures.lines) here in
    let all : IsCauseOf (refusal_from 0 (c.args.before + 1) (lines c.args.text.now)) e = subst (λ r. IsCauseOf r e) (sym c.loop-rest.invariant.refused) next in
    search rules
