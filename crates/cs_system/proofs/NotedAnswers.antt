-- What is said of a system's answer and of the same answer, counted.
use Rattle.std.proofs.Common.{◌≡◌, OnErr}
use Rattle.std.specs.Prelude.{Result, Ok, Err, IfOk}

-- what holds where the system failed holds where that is told
pub noted_err : {T E F : Type 0} (P : Type 0) (a : Result T E) (r : Result T F) → IfOk a (λ x. r ≡ Ok x) → OnErr a P → OnErr r P
noted_err P (Ok x) (Ok y) ok err = tt
noted_err P (Ok x) (Err e) ok err = absurd (cc ok)
noted_err P (Err e) (Ok y) ok err = tt
noted_err P (Err e) (Err f) ok err = err
