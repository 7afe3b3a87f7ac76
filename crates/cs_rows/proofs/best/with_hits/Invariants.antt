use Rattle.std.proofs.Common.{◌≡◌, ◌+◌, ◌≤◌, ◌++◌, length, map, take}
use Rattle.std.specs.Vec.{vec_len, vec_capacity}
use Rattle.cs_rows.specs.Spans.{hit_at}
use Rattle.cs_rows.proofs.best.with_hits.Given as goal

abbrev pub invariant-loop-doc : goal.invariant-loop-doc
invariant-loop-doc l = record {
  hits : l.hits.items ≡ l.fn.hits.items ++ map (hit_at l.best) (take l.doc-index l.docs);
  room : vec_len l.hits + length l.docs ≤ vec_capacity l.hits + l.doc-index;
}
