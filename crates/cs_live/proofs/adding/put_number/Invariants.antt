use Rattle.std.proofs.Common.{◌≡◌, ◌++◌, drop, map, take}
use Rattle.cs_model_changes.specs.Joined.{later_row}
use Rattle.cs_live.proofs.adding.put_number.Given as goal

abbrev pub invariant-loop-i : goal.invariant-loop-i
invariant-loop-i l = l.rows ≡ map (later_row l.number) (take l.i l.initial.rows) ++ drop l.i l.initial.rows
