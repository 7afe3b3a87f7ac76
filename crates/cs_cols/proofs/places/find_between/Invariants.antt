use Rattle.std.proofs.Common.{◌≡◌, ◌+◌, ◌≤◌, length, take}
use Rattle.cs_cols.specs.SpanPlaces.{is_between_at, places_where}
use Rattle.cs_cols.proofs.places.find_between.Given as goal

abbrev pub invariant-loop-i : goal.invariant-loop-i
invariant-loop-i l = record {
  found : take l.found l.places ≡ places_where (is_between_at l.lo l.hi l.words) l.from l.i;
  few : l.found + l.from ≤ l.i;
  len : length l.places ≡ length l.fn.places;
}
