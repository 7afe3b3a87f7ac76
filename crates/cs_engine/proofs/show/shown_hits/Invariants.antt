use Rattle.std.proofs.Common.{◌≡◌, ◌++◌, map, drop}
use Rattle.cs_base.specs.declared.content.doc.Scored.{Scored}
use Rattle.cs_model.specs.Requests.{hit_shown}
use Rattle.cs_rows.specs.IndexReading.{WhereStood}
use Rattle.cs_rows.specs.Stocked.{corpus_in}
use Rattle.cs_rows.specs.Sources.{filed_hits, title_reads}
use Rattle.cs_rows.proofs.WalkLemmas.{ListWalk}
use Rattle.cs_engine.proofs.show.shown_hits.Given as goal

abbrev pub invariant-loop-hit : goal.invariant-loop-hit
invariant-loop-hit g l = record {
  walk : ListWalk g.S.Store.bytes g.S.Store.lent g.S.Store.faults g.S.Store.reads (g.I.Source.view l.index).index
      (λ (h : Scored). title_reads (g.I.Source.view l.index) h.doc) l.hits (filed_hits (g.I.Source.view l.index) l.hits) l.fn.store l.store l.hit-index;
  docs : map (λ h. h.doc) l.hits ≡ map (λ s. s.doc) l.shown ++ map (λ h. h.doc) (drop l.hit-index l.hits);
  told : WhereStood (g.S.Store.bytes l.fn.store) (g.I.Source.view l.index).index
      (λ b. let f = hit_shown (corpus_in ((g.I.Source.view l.index).stock b)) in map f l.hits ≡ l.shown ++ map f (drop l.hit-index l.hits));
}
