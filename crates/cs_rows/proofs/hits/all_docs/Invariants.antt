use Rattle.std.proofs.Common.{◌≡◌, ◌+◌, ◌≤◌}
use Rattle.std.specs.Vec.{vec_capacity, vec_len}
use Rattle.cs_rows.specs.Stocked.{every}
use Rattle.cs_rows.proofs.PresentLemmas.{first_docs}
use Rattle.cs_rows.proofs.hits.all_docs.Given as goal

abbrev pub invariant-loop-doc : goal.invariant-loop-doc
invariant-loop-doc g l = record {
  are : l.all.items ≡ every (first_docs (g.I.Source.view l.index).present l.doc);
  room : vec_len l.all + l.docs ≤ vec_capacity l.all + l.doc;
}
