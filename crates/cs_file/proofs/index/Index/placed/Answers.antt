use Rattle.std.proofs.Common.{subst}
use Rattle.cs_file.specs.Indexes.{IsIndex}
use Rattle.cs_file.proofs.FetchLemmas.{block_at}
use Rattle.cs_file.proofs.index.Index.placed.Goals as goal

pub returns : goal.returns
returns c = block_at c.args.self.now _ c.args.k c.as_slice.result.now c.block_at.result c.self.view_is (subst IsIndex c.self.view_is c.self.invariant.index)
    c.as_slice.ensures c.requires c.block_at.ensures
