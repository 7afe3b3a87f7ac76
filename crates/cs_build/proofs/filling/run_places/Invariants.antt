use Rattle.cs_build.proofs.FillLemmas.{NextPlaces}
use Rattle.cs_build.proofs.filling.run_places.Given as goal

abbrev pub invariant-loop-i : goal.invariant-loop-i
invariant-loop-i l = NextPlaces l.places.items l.i l.words l.runs
