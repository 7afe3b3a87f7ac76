use Rattle.std.proofs.Common.{◌≡◌, drop}
use Rattle.std.specs.Prelude.{fold, min}
use Rattle.cs_more.proofs.runs.least.Given as goal

abbrev pub invariant-loop-number : goal.invariant-loop-number
invariant-loop-number l = fold min l.most l.numbers ≡ fold min l.least (drop l.number-index l.numbers)
