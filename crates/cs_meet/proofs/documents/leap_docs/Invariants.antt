use Rattle.std.proofs.Common.{◌≤◌, ◌-◌, length}
use Rattle.cs_meet.specs.RowPlaces.{AllBelow}
use Rattle.cs_meet.proofs.documents.leap_docs.Given as goal

abbrev pub invariant-loop-lo : goal.invariant-loop-lo
invariant-loop-lo l = record {
  within : l.lo ≤ length l.docs;
  some : 1 ≤ l.step;
  below : AllBelow l.docs l.lo l.doc;
}

abbrev pub decreases-loop-lo : goal.decreases-loop-lo
decreases-loop-lo l = length l.docs - l.lo
