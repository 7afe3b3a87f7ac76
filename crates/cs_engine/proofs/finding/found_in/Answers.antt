use Rattle.std.proofs.Common.{◌∙◌, ap}
use Rattle.cs_rows.specs.Steps.{entry_with, end_positive}
use Rattle.cs_engine.proofs.AnsweringLemmas.{first_in}
use Rattle.cs_engine.proofs.PlansLemmas.{found_by_entry, hits_are_in}
use Rattle.cs_engine.proofs.finding.found_in.Goals as goal

pub returns-clause-base : goal.returns-clause-base
returns-clause-base g c =
    let e = entry_with c.args.base.now c.args.rows.now.posts in
    hits_are_in (g.I.Source.view c.args.over.index.now) c.args.over.query.now e c.end_positive-positive.result
    (c.end_positive-positive.ensures ∙ ap end_positive c.as_slice.ensures) c.in_ok-hits.hits c.in_ok-hits.ensures c.requires.own.fits c.requires.own.parts

pub returns-clause-told : goal.returns-clause-told
returns-clause-told g c b stands own =
    let e = entry_with c.args.base.now c.args.rows.now.posts in record {
      posts = e.rows;
      within = c.requires.own.fits.rows;
      first = c.in_ok-table.ensures.first;
      total = c.in_ok-table.ensures.total;
      found = found_by_entry (g.I.Source.view c.args.over.index.now) c.args.over.query.now e c.end_positive-positive.result
          (c.end_positive-positive.ensures ∙ ap end_positive c.as_slice.ensures) c.in_ok-hits.hits c.in_ok-hits.ensures b stands c.requires.own.index own;
    }

pub returns-clause-table : goal.returns-clause-table
returns-clause-table g c = first_in (g.I.Source.view c.args.over.index.now) c.requires.own.index c.args.rows.now.posts c.requires.own.fits.rows
    c.args.over.cut c.in_ok-table.table.first c.in_ok-table.ensures.first
