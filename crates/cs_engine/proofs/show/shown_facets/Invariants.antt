use Rattle.std.proofs.Common.{◌≡◌, ◌++◌, map, drop}
use Rattle.std.specs.Prelude.{All}
use Rattle.cs_query.specs.RequestView.{asked}
use Rattle.cs_rows.specs.IndexReading.{division, WhereStood}
use Rattle.cs_engine.specs.HeldRanges.{AreHeldOver, FitsRange}
use Rattle.cs_rows.specs.Skipping.{hit_of_facet, hit_of_facets}
use Rattle.cs_rows.specs.Sources.{seen}
use Rattle.cs_rows.specs.Stocked.{facet_at}
use Rattle.cs_rows.proofs.WalkLemmas.{ListWalk}
use Rattle.cs_engine.proofs.show.shown_facets.Given as goal

abbrev pub invariant-loop-name : goal.invariant-loop-name
invariant-loop-name g l = let i = g.I.Source.view l.fn.over.index.now in let v = division i.index in record {
  walk : ListWalk g.S.Store.bytes g.S.Store.lent g.S.Store.faults g.S.Store.reads
      i.index (hit_of_facet v l.base) l.name-items (hit_of_facets v l.base (asked l.fn.over.request.now).facets) l.fn.store l.store l.name-index;
  held : All (FitsRange (seen i)) l.held;
  good : WhereStood (g.S.Store.bytes l.fn.store) i.index (λ b. AreHeldOver (i.stock b) l.fn.held → AreHeldOver (i.stock b) l.held);
  told : WhereStood (g.S.Store.bytes l.fn.store) i.index (λ b. AreHeldOver (i.stock b) l.fn.held
      → (let f = facet_at (i.stock b) l.base l.fn.over.request.now.completions in map f l.name-items ≡ l.shown ++ map f (drop l.name-index l.name-items)));
}
