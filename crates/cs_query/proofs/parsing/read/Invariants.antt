use Rattle.std.proofs.Common.{length}
use Rattle.std.specs.Str.{chars}
use Rattle.cs_query.proofs.Prefixes.{HasRead}
use Rattle.cs_query.proofs.parsing.read.Given as goal

abbrev pub invariant-loop-c : goal.invariant-loop-c
invariant-loop-c l = HasRead (chars l.key) (length l.yielded) l.at l.reader
