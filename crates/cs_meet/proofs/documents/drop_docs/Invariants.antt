use Rattle.std.proofs.Common.{◌≡◌, ◌≤◌, ◌++◌, length, drop}
use Rattle.std.specs.Vec.{vec_len, vec_capacity}
use Rattle.cs_meet.specs.Filters.{drop_docs}
use Rattle.cs_meet.specs.RowPlaces.{AheadOf}
use Rattle.cs_meet.proofs.documents.drop_docs.Given as goal

abbrev pub invariant-loop-scored : goal.invariant-loop-scored
invariant-loop-scored l = record {
  told : drop_docs l.base l.rows.posts ≡ l.kept.items ++ drop_docs (drop l.scored-index l.base) l.rows.posts;
  ahead : AheadOf (λ h. h.doc) l.docs l.base l.i l.scored-index;
  few : vec_len l.kept ≤ l.scored-index;
  room : length l.base ≤ vec_capacity l.kept;
}
