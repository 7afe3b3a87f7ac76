use Rattle.std.proofs.Common.{◌≡◌, take}
use Rattle.cs_rows.specs.Steps.{end_positive}
use Rattle.cs_rows.proofs.steps.end_positive.Given as goal

abbrev pub invariant-loop-part : goal.invariant-loop-part
invariant-loop-part l = l.positive ≡ end_positive (take l.part-index l.parts)
