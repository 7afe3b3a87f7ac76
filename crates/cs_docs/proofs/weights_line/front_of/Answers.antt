use Rattle.std.proofs.Common.{map, sym, ap, ◌∙◌, arith}
use Rattle.std.specs.Str.Lines.{lines}
use Rattle.std.proofs.lemmas.Bool.Decides.{nat_tests}
use Rattle.cs_model.specs.Collection.{weights_of_lines, weights_refusal}
use Rattle.cs_model.specs.First.{first_reason}
use Rattle.cs_model.proofs.FirstLemmas.{first-one}
use Rattle.cs_docs.specs.FaultRefusals.{front_refusal}
use Rattle.cs_docs.specs.LinesRead.{doc_lines_of}
use Rattle.cs_docs.proofs.WeightsLemmas.{IsUnnamed, named_docs, named_line, no_line, unnamed}
use Rattle.cs_docs.proofs.weights_line.front_of.Goals.{then-not-is_empty+else-names_weights, else-not-is_empty}
use Rattle.cs_docs.proofs.weights_line.front_of.Goals as goal

pub returns-then-names_weights-clause-docs : goal.returns-then-names_weights-clause-docs
returns-then-names_weights-clause-docs c =
    ap doc_lines_of c.first_line.ensures.lines ∙ named_docs c.first_line.result.0.now (lines c.first_line.result.1.now) (sym c.if-names_weights.ensures)

pub returns-then-names_weights-clause-accepted : goal.returns-then-names_weights-clause-accepted
returns-then-names_weights-clause-accepted c =
    ap front_refusal c.first_line.ensures.lines
    ∙ ap (λ ls. first_reason (map weights_refusal ls)) (named_line c.first_line.result.0.now (lines c.first_line.result.1.now) (sym c.if-names_weights.ensures))
    ∙ first-one (weights_refusal (1, c.first_line.result.0.now))
    ∙ c.in_ok-weights.ensures.accepted

pub returns-clause-docs : goal.returns-clause-docs
returns-clause-docs c =
    let all : IsUnnamed (lines c.args.text.now) = elim c.if-not-is_empty.branch [
      | then-not-is_empty+else-names_weights w ↦ unnamed (lines c.args.text.now) w.first_line.result.0.now (lines w.first_line.result.1.now) w.first_line.ensures.lines (sym w.if-names_weights.ensures)
      | else-not-is_empty w ↦ no_line c.args.text.now (grind (arith, nat_tests))
    ] in
    all.docs

pub returns-clause-weights : goal.returns-clause-weights
returns-clause-weights c =
    let all : IsUnnamed (lines c.args.text.now) = elim c.if-not-is_empty.branch [
      | then-not-is_empty+else-names_weights w ↦ unnamed (lines c.args.text.now) w.first_line.result.0.now (lines w.first_line.result.1.now) w.first_line.ensures.lines (sym w.if-names_weights.ensures)
      | else-not-is_empty w ↦ no_line c.args.text.now (grind (arith, nat_tests))
    ] in
    sym (ap weights_of_lines all.none)

pub returns-clause-accepted : goal.returns-clause-accepted
returns-clause-accepted c =
    let all : IsUnnamed (lines c.args.text.now) = elim c.if-not-is_empty.branch [
      | then-not-is_empty+else-names_weights w ↦ unnamed (lines c.args.text.now) w.first_line.result.0.now (lines w.first_line.result.1.now) w.first_line.ensures.lines (sym w.if-names_weights.ensures)
      | else-not-is_empty w ↦ no_line c.args.text.now (grind (arith, nat_tests))
    ] in
    ap (λ ls. first_reason (map weights_refusal ls)) all.none
