use Rattle.std.proofs.Common.{◌≡◌, ◌++◌, map, take, drop, get_or}
use Rattle.cs_live.proofs.rows.renumber_words.Given as goal

abbrev pub invariant-loop-i : goal.invariant-loop-i
invariant-loop-i l = l.words ≡ map (λ w. get_or l.shift w 0) (take l.i l.initial.words) ++ drop l.i l.initial.words
