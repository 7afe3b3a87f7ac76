use Rattle.cs_indexing.proofs.SourceLemmas.{unrefused}
use Rattle.cs_top.proofs.trial.imaged.Goals as goal

pub want_of-requires : goal.want_of-requires
want_of-requires c = unrefused c.args.bytes.now c.in-Err.fault c.requires.accepted c.in-Err.ensures.err
