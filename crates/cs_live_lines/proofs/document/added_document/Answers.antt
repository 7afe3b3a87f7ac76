use Rattle.std.proofs.Common.{◌≡◌, ◌∙◌, ◌∷◌, [], arith, subst, sym}
use Rattle.cs_docs.specs.FaultRefusals.{IsCauseOf}
use Rattle.cs_model.specs.Collection.{document}
use Rattle.cs_model_live.specs.LiveLines.{second_line}
use Rattle.cs_live_lines.specs.LineViews.{IsOnlyDocument}
use Rattle.cs_live_lines.proofs.SecondLines.{behind_empty, only_last}
use Rattle.cs_live_lines.proofs.WeightedLines.{only_document}
use Rattle.cs_live_lines.proofs.document.added_document.Goals as goal

-- its last document is that of the line
last : (c : goal.After-drop-collection) → c.in-Some.doc ≡ document (second_line c.args.line.now)
last c =
    let one = behind_empty c.args.line.now c.deref.result.now c.requires.filled c.requires.one (omega (arith, c.requires.short)) (c.deref.ensures.value ∙ c.in_ok-collection.ensures) in
    only_last (document (second_line c.args.line.now)) c.in-Some.doc c.pop.new.self (sym one.docs ∙ sym c.in-Ok.ensures.ok ∙ c.in-Some.ensures)

pub returns-in-Some-clause-ok : goal.returns-in-Some-clause-ok
returns-in-Some-clause-ok c = last c

pub returns-in-Some-clause-accepted : goal.returns-in-Some-clause-accepted
returns-in-Some-clause-accepted c =
    let one = behind_empty c.args.line.now c.deref.result.now c.requires.filled c.requires.one (omega (arith, c.requires.short)) (c.deref.ensures.value ∙ c.in_ok-collection.ensures) in
    sym one.refused ∙ c.in-Ok.ensures.accepted

pub returns-in-Some-clause-read : goal.returns-in-Some-clause-read
returns-in-Some-clause-read c w are =
    let one = behind_empty c.args.line.now c.deref.result.now c.requires.filled c.requires.one (omega (arith, c.requires.short)) (c.deref.ensures.value ∙ c.in_ok-collection.ensures) in
    subst (IsOnlyDocument w) (sym (last c)) (only_document c.args.line.now c.requires.filled c.requires.one c.requires.short (sym one.refused ∙ c.in-Ok.ensures.accepted) w are)

pub unreachable-requires : goal.unreachable-requires
unreachable-requires c =
    let one = behind_empty c.args.line.now c.deref.result.now c.requires.filled c.requires.one (omega (arith, c.requires.short)) (c.deref.ensures.value ∙ c.in_ok-collection.ensures) in
    let none : document (second_line c.args.line.now) ∷ [] ≡ [] = sym one.docs ∙ sym c.in-Ok.ensures.ok ∙ c.in-None.ensures.0 in
    cc

pub fault_of-requires : goal.fault_of-requires
fault_of-requires c =
    let one = behind_empty c.args.line.now c.deref.result.now c.requires.filled c.requires.one (omega (arith, c.requires.short)) (c.deref.ensures.value ∙ c.in_ok-collection.ensures) in
    subst (λ o. IsCauseOf o c.in-Err.fault) one.refused c.in-Err.ensures.err
