use Rattle.std.specs.Prelude.{All}
use Rattle.cs_cols.specs.declared.cols.Cols.{Cols}
use Rattle.cs_rows.specs.IndexReading.{division, AreWithin, WhereStood}
use Rattle.cs_rows.specs.Skipping.{hit_of_chain, hit_of_part, lists_doc}
use Rattle.cs_rows.specs.Sources.{seen}
use Rattle.cs_rows.proofs.AlternativesLemmas.{flat}
use Rattle.cs_rows.proofs.InsideLemmas.{ListsInside}
use Rattle.cs_rows.proofs.WalkLemmas.{ListWalk}
use Rattle.cs_rows.proofs.inside.rows_inside.Given as goal

abbrev pub invariant-loop-chain : goal.invariant-loop-chain
invariant-loop-chain g l = let v = g.I.Source.view l.index in let d = division v.index in record {
  walk : ListWalk g.S.Store.bytes g.S.Store.lent g.S.Store.faults g.S.Store.reads
      v.index (hit_of_chain d l.hits) l.chain-items (hit_of_part d l.hits l.part) l.fn.store l.store l.chain-index;
  within : All (λ (x : Cols). AreWithin (seen v) x.posts) l.lists.items;
  told : WhereStood (g.S.Store.bytes l.fn.store) v.index
      (λ b. ListsInside (v.stock b) (lists_doc l.hits) l.chain-items l.chain-index (flat l.lists.items));
}
