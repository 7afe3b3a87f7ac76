use Rattle.std.proofs.Common.{arith}
use Rattle.cs_vocab.proofs.GatheringLemmas.{none_gathered}
use Rattle.cs_vocab.proofs.gathering.Gathering.with_capacity.Goals as goal

pub returns-clause-is : goal.returns-clause-is
returns-clause-is c = none_gathered _ c.new.ensures.items c.in_ok-with_capacity.ensures.items (omega (arith, c.in_ok-vec.ensures.len), omega (arith, c.in_ok-vec.ensures.len))
