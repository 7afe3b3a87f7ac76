use Rattle.std.proofs.Common.{◌≡◌, ◌+◌, ◌*◌, ◌≤◌, take, drop}
use Rattle.std.specs.Int.{w32, from_be_bytes}
use Rattle.cs_block.proofs.RunsLemmas.{Each}
use Rattle.cs_block.proofs.run_columns.positions_in.Given as goal

abbrev pub invariant-loop-i : goal.invariant-loop-i
invariant-loop-i l = Each (λ j p. (p ≡ from_be_bytes w32 (take 4 (drop (4 * (l.first + j)) l.bytes))) × (l.least ≤ p) × (p ≤ l.most)) l.out l.i
