use Rattle.std.specs.String.{string_bytes, string_len}
use Rattle.cs_query.proofs.Narrowing.{Narrowing}
use Rattle.cs_query.proofs.keying.narrow_word.Given as goal

abbrev pub invariant-loop-c : goal.invariant-loop-c
invariant-loop-c l = Narrowing l.query l.word (string_bytes l.rest) l.found

abbrev pub decreases-loop-c : goal.decreases-loop-c
decreases-loop-c l = string_len l.rest
