use Rattle.std.proofs.Common.{◌≡◌, ◌-◌, ◌≤◌, List, length}
use Rattle.cs_base.specs.declared.content.doc.Post.{Post}
use Rattle.cs_tables.specs.WordCounts.{HasColumnsOf}
use Rattle.cs_tables.proofs.PlacesLemmas.{CountedUpTo}
use Rattle.cs_tables.proofs.word_counts.see_rows.Given as goal

abbrev pub invariant-loop-from : goal.invariant-loop-from
invariant-loop-from l = record {
  counted : (posts : List Post) → HasColumnsOf l.rows posts → CountedUpTo l.low l.high l.rows.listed.now posts l.from l.fn.marks l.marks;
  sized : length l.marks ≡ length l.fn.marks;
  within : l.from ≤ length l.rows.docs.now;
}

abbrev pub decreases-loop-from : goal.decreases-loop-from
decreases-loop-from l = length l.rows.docs.now - l.from
