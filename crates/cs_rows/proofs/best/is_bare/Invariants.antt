use Rattle.std.proofs.Common.{◌≡◌, ℕ, ◌<◌, true, get_or}
use Rattle.cs_rows.proofs.best.is_bare.Given as goal

abbrev pub invariant-loop-entry : goal.invariant-loop-entry
invariant-loop-entry l = l.bare ≡ true → (k : ℕ) (d : ℕ) → k < l.entry-index → get_or l.best k d ≡ 0
