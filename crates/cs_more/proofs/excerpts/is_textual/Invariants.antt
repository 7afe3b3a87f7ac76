use Rattle.std.proofs.Common.{◌≡◌, drop}
use Rattle.cs_model_excerpts.specs.Excerpts.{is_textual}
use Rattle.cs_more.proofs.excerpts.is_textual.Given as goal

abbrev pub invariant-loop-mark : goal.invariant-loop-mark
invariant-loop-mark l = is_textual l.marks ≡ is_textual (drop l.mark-index l.marks)
