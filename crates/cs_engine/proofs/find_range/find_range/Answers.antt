use Rattle.std.proofs.Common.{◌*◌, arith}
use Rattle.cs_base.specs.declared.content.limits.TheConstants.{MAX_PARTS}
use Rattle.cs_base.specs.declared.content.scores.TheConstants.{MAX_ROW_SCORE}
use Rattle.cs_rows.proofs.PartSteps.{base_weaker}
use Rattle.cs_engine.proofs.LooseLemmas.{table_counted, table_there}
use Rattle.cs_engine.proofs.WideLemmas.{range_counts, too_large, wide_held}
use Rattle.cs_engine.proofs.find_range.find_range.Goals as goal

pub returns-clause-told : goal.returns-clause-told
returns-clause-told g c b is stands held p =
    let v = (g.I.Source.view c.args.over.index.now) in
    let q = c.args.over.query.now in
    let has = c.in_ok-hits.ensures.told b is stands held in
    let many = wide_held v c.args.words.0 c.args.words.1 c.args.held.now c.requires.wide b stands held in record {
      table = table_counted (range_counts v q c.args.words.0 c.args.words.1 c.requires.asks b stands c.requires.over.opened.source _ _ has)
          c.in_ok-table.ensures.total c.in_ok-table.ensures.first;
      own = tt;
      large = λ none other. too_large v q c.args.words.0 c.args.words.1 c.requires.asks b stands c.requires.over.opened.source many;
      range = record { found = has; many = many };
    }

pub returns-clause-fits : goal.returns-clause-fits
returns-clause-fits g c =
    let high = c.in_ok-hits.ensures.words in
    let base = c.in_ok-hits.ensures.base in record {
      base = base_weaker (g.I.Source.view c.args.over.index.now).docs MAX_ROW_SCORE (MAX_ROW_SCORE * MAX_PARTS) c.in_ok-hits.hits (omega arith) base;
      table = table_there _ (omega (arith, high)) c.in_ok-table.ensures.known;
      own = tt;
      range = (high, base);
    }
