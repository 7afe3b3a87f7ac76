use Rattle.std.proofs.Common.{◌≡◌, ◌+◌, ◌-◌, ◌≤◌, ◌++◌, length, drop}
use Rattle.cs_meet.specs.Filters.{keep_docs}
use Rattle.cs_meet.specs.RowPlaces.{AheadOf}
use Rattle.cs_meet.proofs.documents.keep_docs.Given as goal

abbrev pub invariant-loop-j : goal.invariant-loop-j
invariant-loop-j l = record {
  told : keep_docs l.rows.posts l.docs ≡ l.found.posts ++ keep_docs (drop l.j l.rows.posts) l.docs;
  ahead : AheadOf (λ r. r.doc) l.docs l.rows.posts l.i l.j;
  room : length l.rows.posts ≤ l.found.room + l.j;
}

abbrev pub decreases-loop-j : goal.decreases-loop-j
decreases-loop-j l = length l.rows.posts - l.j
