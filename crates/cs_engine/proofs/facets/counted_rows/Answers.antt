use Rattle.std.proofs.Common.{refl}
use Rattle.std.specs.Prelude.{filter}
use Rattle.cs_rows.specs.Counting.{in_listed}
use Rattle.cs_engine.proofs.FacetLemmas.{countable_kept}
use Rattle.cs_engine.proofs.facets.counted_rows.Goals as goal

pub returns-clause-told : goal.returns-clause-told
returns-clause-told c all are = record {
  seen = filter (in_listed c.args.listed.now) c.args.rows.posts;
  countable = countable_kept c.requires.index c.requires.few_docs c.args.listed.now c.args.rows.posts c.requires.within;
  counted = c.in_ok-counts.ensures.told all are;
  same = refl;
}
