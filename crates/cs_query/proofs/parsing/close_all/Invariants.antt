use Rattle.std.proofs.Common.{◌≡◌, length, reverse}
use Rattle.cs_model.specs.Grammar.{all_closed}
use Rattle.cs_query.proofs.parsing.close_all.Given as goal

abbrev pub invariant-loop-level : goal.invariant-loop-level
invariant-loop-level l = all_closed l.parts (reverse l.open_now) ≡ all_closed l.initial.parts (reverse l.initial.open_now)

abbrev pub decreases-loop-level : goal.decreases-loop-level
decreases-loop-level l = length l.open_now
