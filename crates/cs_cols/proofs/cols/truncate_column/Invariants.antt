use Rattle.std.proofs.Common.{◌≡◌, take}
use Rattle.cs_cols.specs.Placed.{IsInPlace}
use Rattle.cs_cols.proofs.cols.truncate_column.Given as goal

abbrev pub invariant-loop-column : goal.invariant-loop-column
invariant-loop-column g l = (take l.fn.n l.column.items ≡ take l.fn.n l.fn.column.items) × IsInPlace l.fn.column l.column

abbrev pub decreases-loop-column : goal.decreases-loop-column
decreases-loop-column g l = goal.left-loop-column g l
