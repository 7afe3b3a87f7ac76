use Rattle.std.proofs.Common.{◌≡◌, drop}
use Rattle.std.specs.List.{list_any}
use Rattle.cs_engine.specs.HeldRanges.{is_range}
use Rattle.cs_engine.proofs.held.place_of.Given as goal

abbrev pub invariant-loop-i : goal.invariant-loop-i
invariant-loop-i l = let test = is_range l.words.0 l.words.1 l.kind in list_any test l.ranges ≡ list_any test (drop l.i l.ranges)
