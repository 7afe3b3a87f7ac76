use Rattle.cs_tables.proofs.PlacesLemmas.{CountsPlaces}
use Rattle.cs_tables.proofs.WordCountsLemmas.{one_marked}
use Rattle.cs_tables.proofs.word_counts.see_one_at.Given as goal

abbrev pub invariant-loop-place : goal.invariant-loop-place
invariant-loop-place l = CountsPlaces l.low l.high l.rows l.places l.place-index l.marks (one_marked l.low l.high l.rows l.marks l.mark)
