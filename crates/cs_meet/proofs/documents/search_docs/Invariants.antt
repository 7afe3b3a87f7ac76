use Rattle.std.proofs.Common.{◌≤◌, ◌<◌, ◌+◌, length, get_or}
use Rattle.cs_meet.specs.RowPlaces.{AllBelow}
use Rattle.cs_meet.proofs.documents.search_docs.Given as goal

abbrev pub invariant-loop-left : goal.invariant-loop-left
invariant-loop-left l = record {
  within : l.lo + l.left ≤ length l.docs;
  below : AllBelow l.docs l.lo l.doc;
  stop : l.lo + l.left < length l.docs → l.doc ≤ get_or l.docs (l.lo + l.left) 0;
}

abbrev pub decreases-loop-left : goal.decreases-loop-left
decreases-loop-left l = l.left
