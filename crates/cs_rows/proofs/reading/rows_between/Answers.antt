use Rattle.std.proofs.Common.{◌∙◌, ap, length}
use Rattle.cs_rows.proofs.OverSources.{all_there}
use Rattle.cs_rows.proofs.SkippingLemmas.{all_reach, all_sieve}
use Rattle.cs_rows.proofs.WalkLemmas.{within_more}
use Rattle.cs_rows.proofs.reading.rows_between.Goals as goal

pub rows_in_hits-requires-clause-sieve : goal.rows_in_hits-requires-clause-sieve
rows_in_hits-requires-clause-sieve g c =
    all_sieve (g.S.Store.bytes c.args.store.now) (g.I.Source.view c.args.index.now) c.deref.result.now c.requires.opened
    (ap length (c.deref.ensures.value ∙ c.in_ok-all.ensures) ∙ c.requires.opened.source.long)

pub returns-in_err-rows-clause-reads : goal.returns-in_err-rows-clause-reads
returns-in_err-rows-clause-reads g c = within_more c.rows_in_hits.ensures.reads (all_reach (g.I.Source.view c.args.index.now) c.args.words.0 c.args.words.1)

pub returns-clause-told : goal.returns-clause-told
returns-clause-told g c b is stands =
    c.in_ok-rows.ensures.told b is stands
    ∙ all_there b (g.I.Source.view c.args.index.now) stands c.requires.opened.source c.args.words.0 c.args.words.1 c.deref.result.now
    (c.deref.ensures.value ∙ c.in_ok-all.ensures)

pub returns-clause-reads : goal.returns-clause-reads
returns-clause-reads g c = within_more c.rows_in_hits.ensures.reads (all_reach (g.I.Source.view c.args.index.now) c.args.words.0 c.args.words.1)
