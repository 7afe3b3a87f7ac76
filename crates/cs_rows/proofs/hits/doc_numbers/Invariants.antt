use Rattle.std.proofs.Common.{◌≡◌, ◌+◌, ◌≤◌, ◌++◌, drop, length, map}
use Rattle.std.specs.Vec.{vec_capacity, vec_len}
use Rattle.cs_base.specs.declared.content.doc.Scored.{Scored}
use Rattle.cs_rows.proofs.hits.doc_numbers.Given as goal

abbrev pub invariant-loop-hit : goal.invariant-loop-hit
invariant-loop-hit l = record {
  told : map (λ (h : Scored). h.doc) l.hits ≡ l.numbers.items ++ map (λ (h : Scored). h.doc) (drop l.hit-index l.hits);
  room : vec_len l.numbers + length l.hits ≤ vec_capacity l.numbers + l.hit-index;
}
