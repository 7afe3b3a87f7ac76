use Rattle.std.proofs.Common.{sym, subst, true≢false}
use Rattle.cs_engine.specs.Finding.{CanOwn}
use Rattle.cs_engine.specs.Keeping.{IsEntryOver}
use Rattle.cs_rows.specs.Sources.{seen}
use Rattle.cs_rows.specs.Stocked.{corpus_in}
use Rattle.cs_engine.proofs.finding.found_with.Goals as goal

pub found_in-requires : goal.found_in-requires
found_in-requires g c = record { own = subst (CanOwn (g.I.Source.view c.args.over.index.now) c.args.over.query.now) (sym c.entry.view_is) c.requires.own }

pub returns-clause-told : goal.returns-clause-told
returns-clause-told g c b stands own p = record {
  table = c.in_ok-hits.ensures.told b stands (subst (IsEntryOver (corpus_in ((g.I.Source.view c.args.over.index.now).stock b))
      (seen (g.I.Source.view c.args.over.index.now)) c.args.over.query.now) (sym c.entry.view_is) own);
  own = own;
  large = λ none. absurd (true≢false none);
  range = tt;
}

pub returns-clause-fits : goal.returns-clause-fits
returns-clause-fits g c = record { base = c.in_ok-hits.ensures.base; table = c.in_ok-hits.ensures.table; own = c.requires.own.fits; range = tt }
