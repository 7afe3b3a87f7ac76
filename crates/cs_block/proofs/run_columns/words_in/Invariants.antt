use Rattle.std.proofs.Common.{◌≡◌, ◌+◌, ◌*◌, ◌≤◌, take, drop}
use Rattle.std.specs.Int.{w16, from_be_bytes}
use Rattle.cs_block.proofs.RunsLemmas.{Each}
use Rattle.cs_block.proofs.run_columns.words_in.Given as goal

abbrev pub invariant-loop-i : goal.invariant-loop-i
invariant-loop-i l = Each (λ j w. (w ≡ l.lo + from_be_bytes w16 (take 2 (drop (2 * (l.first + j)) l.bytes))) × (w ≤ l.lo + l.most)) l.out l.i
