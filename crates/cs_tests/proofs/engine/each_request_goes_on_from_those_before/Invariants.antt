use Rattle.std.proofs.Common.{Some}
use Rattle.cs_file.specs.Indexes.{HasAllBlocks}
use Rattle.cs_tests.proofs.engine.each_request_goes_on_from_those_before.Given as goal

abbrev pub invariant-loop-text : goal.invariant-loop-text
invariant-loop-text g l = HasAllBlocks (Some l.store.bytes) l.engine.index
