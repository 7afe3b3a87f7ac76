use Rattle.std.proofs.Common.{◌≡◌, length}
use Rattle.cs_tables.proofs.PlacesLemmas.{CountsPlaces}
use Rattle.cs_tables.proofs.word_counts.see_places.Given as goal

abbrev pub invariant-loop-place : goal.invariant-loop-place
invariant-loop-place l = record {
  counted : CountsPlaces l.low l.high l.rows l.places l.place-index l.fn.marks l.marks;
  sized : length l.marks ≡ length l.fn.marks;
}
