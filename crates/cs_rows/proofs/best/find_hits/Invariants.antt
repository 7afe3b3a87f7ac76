use Rattle.std.proofs.Common.{◌≡◌, ◌+◌, ◌≤◌, length, take}
use Rattle.cs_cols.specs.SpanPlaces.{places_where}
use Rattle.cs_rows.specs.Spans.{has_entry_at}
use Rattle.cs_rows.proofs.best.find_hits.Given as goal

abbrev pub invariant-loop-doc : goal.invariant-loop-doc
invariant-loop-doc l = record {
  found : take l.found l.places ≡ places_where (has_entry_at l.best) l.from l.doc;
  few : l.found + l.from ≤ l.doc;
  len : length l.places ≡ length l.fn.places;
}
