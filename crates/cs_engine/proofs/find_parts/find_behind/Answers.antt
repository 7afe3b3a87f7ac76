use Rattle.std.proofs.Common.{◌*◌, ◌+◌, ◌-◌, length, refl, arith}
use Rattle.std.specs.Prelude.{filter}
use Rattle.cs_base.specs.declared.content.limits.TheConstants.{MAX_PARTS}
use Rattle.cs_base.specs.declared.content.query.Query.{out-Query}
use Rattle.cs_base.specs.declared.content.scores.TheConstants.{MAX_ROW_SCORE}
use Rattle.cs_engine.proofs.LooseLemmas.{found_counts, large_entry, table_counted, table_there}
use Rattle.cs_rows.specs.Counting.{in_listed}
use Rattle.cs_rows.specs.Stocked.{is_between}
use Rattle.cs_rows.proofs.PartSteps.{base_weaker}
use Rattle.cs_engine.proofs.WideLemmas.{wide_fits, wide_range}
use Rattle.cs_engine.proofs.find_parts.find_behind.Goals as goal

pub found_behind-requires-clause-base : goal.found_behind-requires-clause-base
found_behind-requires-clause-base g c =
    let n = length (out-Query c.args.over.query.now).parts in
    let few = c.requires.over.parts in
    base_weaker (g.I.Source.view c.args.over.index.now).docs (MAX_ROW_SCORE * (n - 1)) (MAX_ROW_SCORE * (MAX_PARTS - 1)) c.args.hits.now
    (omega (arith, few)) c.requires.asks.base

pub returns-clause-told : goal.returns-clause-told
returns-clause-told g c b is stands gathered files by many p =
    let v = g.I.Source.view c.args.over.index.now in
    let q = c.args.over.query.now in
    let hits = c.args.hits.now in
    let lo = c.args.words.0 in
    let hi = c.args.words.1 in
    let listed = c.args.listed.now in
    let source = c.requires.over.opened.source in
    let posts = (v.stock b).posts in
    let found = c.in_ok-found.ensures.told b is stands gathered files in
    record {
      table = table_counted (found_counts v q hits lo hi c.requires.asks b stands source by _ _ found) c.in_ok-table.ensures.total c.in_ok-table.ensures.first;
      own = tt;
      large = λ none other. large_entry v q hits lo hi c.requires.asks listed c.requires.listed b stands source by
          (filter (in_listed listed) (filter (is_between lo hi) posts)) refl many;
      range = wide_range hits lo hi c.in_ok-found.counts posts listed c.in_ok-found.found c.counted_in_all.result c.counted_in_all.ensures many found;
    }

pub returns-clause-fits : goal.returns-clause-fits
returns-clause-fits g c =
    let docs = (g.I.Source.view c.args.over.index.now).docs in
    let n = length (out-Query c.args.over.query.now).parts in
    let few = c.requires.over.parts in
    let some = c.requires.asks.some in
    let high = c.in_ok-found.ensures.words in
    let within = c.requires.asks.within in
    let found = c.in_ok-found.found in
    record {
      base = base_weaker docs (MAX_ROW_SCORE * (n - 1 + 1)) (MAX_ROW_SCORE * MAX_PARTS) found (omega (arith, few, some))
          (c.in_ok-found.ensures.base (n - 1) c.requires.asks.base);
      table = table_there _ (omega (arith, high, within)) c.in_ok-table.ensures.known;
      own = tt;
      range = wide_fits c.args.hits.now c.args.words.0 c.args.words.1 c.in_ok-found.counts docs _ found c.counted_in_all.result c.counted_in_all.ensures
          (omega (arith, high, within)) c.in_ok-found.ensures.base;
    }
