use Rattle.std.proofs.Common.{◌≡◌, ◌-◌, ◌≤◌, drop, length}
use Rattle.cs_model_index.specs.BlockRules.{codes_break}
use Rattle.cs_block.proofs.judging.bad_code.Given as goal

abbrev pub invariant-loop : goal.invariant-loop
invariant-loop l = record {
  told : codes_break (l.rows - l.counter) l.at (drop l.at l.gaps) ≡ codes_break l.rows 0 l.gaps;
  within : l.at ≤ length l.gaps;
}
