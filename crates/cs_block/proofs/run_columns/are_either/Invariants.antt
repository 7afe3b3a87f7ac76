use Rattle.std.proofs.Common.{◌≡◌, ℕ, ◌<◌, true, ◌||◌, eqb, get_or}
use Rattle.cs_block.proofs.run_columns.are_either.Given as goal

abbrev pub invariant-loop-i : goal.invariant-loop-i
invariant-loop-i l = l.holds ≡ true → (j : ℕ) → j < l.i → (eqb (get_or l.bytes j 0) l.a || eqb (get_or l.bytes j 0) l.b) ≡ true
