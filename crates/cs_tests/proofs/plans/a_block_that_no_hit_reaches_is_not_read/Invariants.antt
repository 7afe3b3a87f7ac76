use Rattle.std.proofs.Common.{Some}
use Rattle.cs_file.specs.Indexes.{HasAllBlocks}
use Rattle.cs_tests.proofs.plans.a_block_that_no_hit_reaches_is_not_read.Given as goal

abbrev pub invariant-loop-params : goal.invariant-loop-params
invariant-loop-params g l = HasAllBlocks (Some l.store.bytes) l.engine.index
