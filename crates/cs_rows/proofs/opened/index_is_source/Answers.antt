use Rattle.std.proofs.Common.{subst}
use Rattle.cs_file.specs.Indexes.{IsIndex}
use Rattle.cs_rows.proofs.OpenedLemmas.{opened_source}
use Rattle.cs_rows.proofs.opened.index_is_source.Goals as goal

pub returns : goal.returns
returns c = opened_source c.args.index.now (subst IsIndex c.index.view_is c.index.invariant.index)
