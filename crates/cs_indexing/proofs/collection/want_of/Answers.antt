use Rattle.cs_indexing.proofs.SourceLemmas.{unsaid}
use Rattle.cs_indexing.proofs.collection.want_of.Goals as goal

pub unreachable-requires : goal.unreachable-requires
unreachable-requires c = unsaid c.args.fault _ c.reason.result c.requires c.reason.ensures c.in-Some.is
