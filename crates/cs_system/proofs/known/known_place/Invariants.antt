use Rattle.cs_system.proofs.KnownPlaces.{NoneBefore}
use Rattle.cs_system.proofs.known.known_place.Given as goal

abbrev pub invariant-loop-i : goal.invariant-loop-i
invariant-loop-i g l = NoneBefore l.known l.name l.i
