use Rattle.std.proofs.Common.{rules, ◌+◌, ◌≤◌, [], length, sym, ap, subst, ◌∙◌, arith}
use Rattle.std.specs.Str.Lines.{lines}
use Rattle.cs_base.specs.declared.content.limits.TheConstants.{MAX_COLLECTION_BYTES}
use Rattle.cs_model.specs.Collection.{docs_refusal, weights_of_lines}
use Rattle.cs_model.specs.Weights.{AreWeights}
use Rattle.cs_docs.specs.FaultRefusals.{IsCauseOf}
use Rattle.cs_docs.specs.LinesRead.{weights_lines_of}
use Rattle.cs_docs.proofs.AcceptedCollections.{few_documents}
use Rattle.cs_docs.proofs.LinesLemmas.{accepted_by, cause_behind, cause_in_front}
use Rattle.cs_docs.proofs.WeightsLemmas.{weights_are}
use Rattle.cs_docs.proofs.reader.lent_docs.Goals as goal

pub returns-in_err-front-clause-err : goal.returns-in_err-front-clause-err
returns-in_err-front-clause-err c =
    let e = c.in_err-front.field-0.0 in
    let small : length c.args.bytes.now ≤ MAX_COLLECTION_BYTES = omega arith in
    let all : IsCauseOf (docs_refusal c.args.bytes.now) e = cause_in_front c.args.bytes.now c.without_mark.result.now 0 [] small c.without_mark.ensures e c.in_err-front.ensures.err in
    search rules

pub returns-in_err-docs-clause-err : goal.returns-in_err-docs-clause-err
returns-in_err-docs-clause-err c =
    let e = c.in_err-docs.field-0.0 in
    let small : length c.args.bytes.now ≤ MAX_COLLECTION_BYTES = omega arith in
    let all : IsCauseOf (docs_refusal c.args.bytes.now) e =
    cause_behind c.args.bytes.now c.without_mark.result.now (c.in_ok-front.front.lines + 1) (lines c.in_ok-front.front.rest.now) small c.without_mark.ensures e c.in_ok-front.ensures.accepted c.in_ok-front.ensures.docs c.in_err-docs.ensures.err in
    search rules

pub returns-clause-scored : goal.returns-clause-scored
returns-clause-scored c = subst AreWeights (sym (c.in_ok-front.ensures.weights ∙ ap (λ t. weights_of_lines (weights_lines_of (lines t))) c.without_mark.ensures)) (weights_are c.args.bytes.now)

pub returns-clause-accepted : goal.returns-clause-accepted
returns-clause-accepted c =
    let small : length c.args.bytes.now ≤ MAX_COLLECTION_BYTES = omega arith in
    accepted_by c.args.bytes.now c.without_mark.result.now (c.in_ok-front.front.lines + 1) (lines c.in_ok-front.front.rest.now) small c.without_mark.ensures c.in_ok-front.ensures.accepted c.in_ok-front.ensures.docs c.in_ok-docs.ensures.accepted

pub returns-clause-few : goal.returns-clause-few
returns-clause-few c =
    let small : length c.args.bytes.now ≤ MAX_COLLECTION_BYTES = omega arith in
    few_documents c.args.bytes.now
    (accepted_by c.args.bytes.now c.without_mark.result.now (c.in_ok-front.front.lines + 1) (lines c.in_ok-front.front.rest.now) small c.without_mark.ensures c.in_ok-front.ensures.accepted c.in_ok-front.ensures.docs c.in_ok-docs.ensures.accepted)
