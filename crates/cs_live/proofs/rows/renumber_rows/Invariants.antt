use Rattle.std.proofs.Common.{◌≡◌, ◌++◌, map, take, drop}
use Rattle.cs_live.specs.States.{renumbered}
use Rattle.cs_live.proofs.rows.renumber_rows.Given as goal

abbrev pub invariant-loop-i : goal.invariant-loop-i
invariant-loop-i l = l.posts ≡ map (renumbered l.shift) (take l.i l.initial.posts) ++ drop l.i l.initial.posts
