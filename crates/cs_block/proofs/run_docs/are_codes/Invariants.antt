use Rattle.std.proofs.Common.{ℕ, ◌+◌, ◌≤◌, ◌<◌, get_or}
use Rattle.cs_block.proofs.run_docs.are_codes.Given as goal

abbrev pub invariant-loop-i : goal.invariant-loop-i
invariant-loop-i l = (j : ℕ) → j < l.i → get_or l.gaps (l.at + j) 0 ≤ l.most
