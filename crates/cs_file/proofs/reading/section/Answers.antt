use Rattle.std.proofs.Common.{◌≡◌, Result, Ok, Err, sym, subst}
use Rattle.std.specs.Prelude.{Option, IfErr}
use Rattle.std.specs.Result.{IsErrAnd}
use Rattle.cs_base.specs.declared.index.block.Broken.{Broken}
use Rattle.cs_file.specs.Opening.{Refuses}
use Rattle.cs_file.specs.declared.fault.OpenFault.{OpenFault}
use Rattle.cs_file.proofs.reading.section.Goals as goal

-- an answer that passes a fault on
along : {T : Type 0} (o : Option Broken) (e : OpenFault) (r : Result T OpenFault) → Refuses o e → IsErrAnd r (λ x. x ≡ e) → IfErr r (Refuses o)
along o e (Ok x) h is = tt
along o e (Err x) h is = subst (Refuses o) (sym is) h

pub returns-in_err-section_over-clause-err : goal.returns-in_err-section_over-clause-err
returns-in_err-section_over-clause-err g c = λ o.
    along o c.in_err-section_over.field-0.0 c.from_residual-in_err-section_over.result (c.in_err-section_over.ensures.err o)
    c.from_residual-in_err-section_over.ensures.1
