use Rattle.std.proofs.Common.{◌<◌, length}
use Rattle.cs_vocab.proofs.gathering.look.Given as goal

abbrev pub invariant-loop : goal.invariant-loop
invariant-loop l = l.slot < length l.slots
