use Rattle.cs_rows.specs.IndexReading.{division, AreWithin, WhereStood}
use Rattle.cs_rows.specs.Skipping.{hit_of_chain, hit_of_linked, lists_doc}
use Rattle.cs_rows.specs.Sources.{seen}
use Rattle.cs_rows.proofs.InsideLemmas.{LinkedInside}
use Rattle.cs_rows.proofs.WalkLemmas.{ListWalk}
use Rattle.cs_rows.proofs.inside.rows_in_chain.Given as goal

abbrev pub invariant-loop-linked : goal.invariant-loop-linked
invariant-loop-linked g l = let v = g.I.Source.view l.index in let d = division v.index in record {
  walk : ListWalk g.S.Store.bytes g.S.Store.lent g.S.Store.faults g.S.Store.reads
      v.index (hit_of_linked d l.hits) l.linked-items (hit_of_chain d l.hits l.chain) l.fn.store l.store l.linked-index;
  within : AreWithin (seen v) l.found.posts;
  told : WhereStood (g.S.Store.bytes l.fn.store) v.index
      (λ b. LinkedInside (v.stock b) (lists_doc l.hits) l.chain l.linked-items l.linked-index l.found.posts);
}
