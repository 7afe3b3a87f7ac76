use Rattle.std.proofs.Common.{◌≡◌, ◌+◌, ◌≤◌, length, take}
use Rattle.cs_cols.specs.SpanPlaces.{is_listed_at, places_where}
use Rattle.cs_cols.proofs.places.find_listed.Given as goal

abbrev pub invariant-loop-i : goal.invariant-loop-i
invariant-loop-i l = record {
  found : take l.found l.places ≡ places_where (is_listed_at l.listed l.docs) l.from l.i;
  few : l.found + l.from ≤ l.i;
  len : length l.places ≡ length l.fn.places;
}
