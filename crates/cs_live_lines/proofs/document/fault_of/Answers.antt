use Rattle.std.proofs.Common.{◌≡◌, ◌∙◌, ap, subst}
use Rattle.std.specs.Prelude.{Some}
use Rattle.cs_docs.specs.FaultRefusals.{IsCauseOf}
use Rattle.cs_model.specs.Collection.{bad_facet, bad_name, line_refusal, line_too_long, not_utf8, words_too_many}
use Rattle.cs_model_live.specs.LiveLines.{second_line}
use Rattle.cs_live_lines.proofs.SecondLines.{never, second_cause}
use Rattle.cs_live_lines.proofs.document.fault_of.Goals as goal

pub unreachable-requires : goal.unreachable-requires
unreachable-requires c = never c.args.line.now c.args.fault c.requires c.in-TooLarge.is

pub returns-in-NotUtf8 : goal.returns-in-NotUtf8
returns-in-NotUtf8 c =
    let refused : line_refusal (second_line c.args.line.now) ≡ Some (not_utf8 c.in-NotUtf8.line) = subst (IsCauseOf (line_refusal (second_line c.args.line.now))) c.in-NotUtf8.is c.requires in
    refused ∙ ap (λ n. Some (not_utf8 n)) (second_cause c.args.line.now (not_utf8 c.in-NotUtf8.line) refused)

pub returns-in-LineTooLong : goal.returns-in-LineTooLong
returns-in-LineTooLong c =
    let refused : line_refusal (second_line c.args.line.now) ≡ Some (line_too_long c.in-LineTooLong.line) = subst (IsCauseOf (line_refusal (second_line c.args.line.now))) c.in-LineTooLong.is c.requires in
    refused ∙ ap (λ n. Some (line_too_long n)) (second_cause c.args.line.now (line_too_long c.in-LineTooLong.line) refused)

pub returns-in-WordsTooMany : goal.returns-in-WordsTooMany
returns-in-WordsTooMany c =
    let refused : line_refusal (second_line c.args.line.now) ≡ Some (words_too_many c.in-WordsTooMany.line) = subst (IsCauseOf (line_refusal (second_line c.args.line.now))) c.in-WordsTooMany.is c.requires in
    refused ∙ ap (λ n. Some (words_too_many n)) (second_cause c.args.line.now (words_too_many c.in-WordsTooMany.line) refused)

pub returns-in-BadFacet : goal.returns-in-BadFacet
returns-in-BadFacet c =
    let refused : line_refusal (second_line c.args.line.now) ≡ Some (bad_facet c.in-BadFacet.line) = subst (IsCauseOf (line_refusal (second_line c.args.line.now))) c.in-BadFacet.is c.requires in
    refused ∙ ap (λ n. Some (bad_facet n)) (second_cause c.args.line.now (bad_facet c.in-BadFacet.line) refused)

pub returns-in-BadName : goal.returns-in-BadName
returns-in-BadName c =
    let refused : line_refusal (second_line c.args.line.now) ≡ Some (bad_name c.in-BadName.line) = subst (IsCauseOf (line_refusal (second_line c.args.line.now))) c.in-BadName.is c.requires in
    refused ∙ ap (λ n. Some (bad_name n)) (second_cause c.args.line.now (bad_name c.in-BadName.line) refused)
