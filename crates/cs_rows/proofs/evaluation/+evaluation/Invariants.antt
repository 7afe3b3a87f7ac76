use Rattle.std.specs.Prelude.{All}
use Rattle.cs_cols.specs.declared.cols.Cols.{Cols}
use Rattle.cs_model_kept.specs.Due.{met_of_chain, met_of_linked, met_of_part, met_of_query}
use Rattle.cs_rank.specs.DocScores.{IsBase}
use Rattle.cs_rows.specs.IndexReading.{division, AreWithin, WhereStood}
use Rattle.cs_rows.specs.Sources.{seen}
use Rattle.cs_rows.specs.Stocked.{present_docs}
use Rattle.cs_rows.proofs.AlternativesLemmas.{ListsSoFar, flat}
use Rattle.cs_rows.proofs.EvaluationLemmas.{DocsSoFar, LinkedSoFar}
use Rattle.cs_rows.proofs.WalkLemmas.{ListWalk}
use Rattle.cs_rows.proofs.evaluation.+evaluation.Given as goal

abbrev pub invariant-docs_of_hits-loop-part : goal.invariant-docs_of_hits-loop-part
invariant-docs_of_hits-loop-part g l = let v = division (g.I.Source.view l.index).index in record {
  walk : ListWalk g.S.Store.bytes g.S.Store.lent g.S.Store.faults g.S.Store.reads
      (g.I.Source.view l.index).index (met_of_part v) l.part-items (met_of_query v l.query) l.fn.store l.store l.part-index;
  base : IsBase l.hits;
  told : WhereStood (g.S.Store.bytes l.fn.store) (g.I.Source.view l.index).index
      (λ b. DocsSoFar ((g.I.Source.view l.index).stock b) l.part-items (present_docs (g.I.Source.view l.index).present) l.part-index l.hits);
}

abbrev pub invariant-rows_of_part-loop-chain : goal.invariant-rows_of_part-loop-chain
invariant-rows_of_part-loop-chain g l = let v = division (g.I.Source.view l.index).index in record {
  walk : ListWalk g.S.Store.bytes g.S.Store.lent g.S.Store.faults g.S.Store.reads
      (g.I.Source.view l.index).index (met_of_chain v) l.chain-items (met_of_part v l.part) l.fn.store l.store l.chain-index;
  within : All (λ (x : Cols). AreWithin (seen (g.I.Source.view l.index)) x.posts) l.lists.items;
  told : WhereStood (g.S.Store.bytes l.fn.store) (g.I.Source.view l.index).index
      (λ b. ListsSoFar ((g.I.Source.view l.index).stock b) l.chain-items l.chain-index (flat l.lists.items));
}

abbrev pub invariant-rows_of_chain-loop-linked : goal.invariant-rows_of_chain-loop-linked
invariant-rows_of_chain-loop-linked g l = let v = division (g.I.Source.view l.index).index in record {
  walk : ListWalk g.S.Store.bytes g.S.Store.lent g.S.Store.faults g.S.Store.reads
      (g.I.Source.view l.index).index (met_of_linked v) l.linked-items (met_of_chain v l.chain) l.fn.store l.store l.linked-index;
  within : AreWithin (seen (g.I.Source.view l.index)) l.found.posts;
  told : WhereStood (g.S.Store.bytes l.fn.store) (g.I.Source.view l.index).index
      (λ b. LinkedSoFar ((g.I.Source.view l.index).stock b) l.chain l.linked-items l.linked-index l.found.posts);
}
