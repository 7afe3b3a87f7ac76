use Rattle.std.proofs.Common.{◌≡◌, ◌+◌, ◌++◌, take}
use Rattle.std_alloc.specs.Vec.{vec_len}
use Rattle.cs_cols.specs.Placed.{IsInPlace}
use Rattle.cs_cols.proofs.cols.extended.Given as goal

abbrev pub invariant-loop-entry : goal.invariant-loop-entry
invariant-loop-entry g l =
    (l.column.items ≡ l.fn.column.items ++ take l.entry-index l.fn.more) × (vec_len l.column ≡ vec_len l.fn.column + l.entry-index) × IsInPlace l.fn.column l.column
