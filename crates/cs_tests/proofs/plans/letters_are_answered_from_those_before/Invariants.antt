use Rattle.std.proofs.Common.{Some}
use Rattle.cs_file.specs.Indexes.{HasAllBlocks}
use Rattle.cs_tests.proofs.plans.letters_are_answered_from_those_before.Given as goal

abbrev pub invariant-loop-params : goal.invariant-loop-params
invariant-loop-params g l = HasAllBlocks (Some l.store.bytes) l.engine.index
