use Rattle.std.proofs.Common.{◌≡◌, ◌-◌, string_bytes}
use Rattle.cs_more.proofs.RunWords.{joined}
use Rattle.cs_more.proofs.excerpts.run_text.Given as goal

abbrev pub invariant-loop-place : goal.invariant-loop-place
invariant-loop-place l = string_bytes l.text ≡ joined l.words l.marks l.fn.run.first (l.place - l.fn.run.first)
