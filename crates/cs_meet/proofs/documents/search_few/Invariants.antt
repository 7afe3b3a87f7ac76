use Rattle.std.proofs.Common.{◌≤◌, ◌<◌, get_or}
use Rattle.cs_meet.specs.RowPlaces.{AllBelow}
use Rattle.cs_meet.proofs.documents.search_few.Given as goal

abbrev pub invariant-loop-i : goal.invariant-loop-i
invariant-loop-i l = record {
  within : l.place ≤ l.i;
  below : AllBelow l.docs l.place l.doc;
  stop : l.place < l.i → l.doc ≤ get_or l.docs l.place 0;
}
