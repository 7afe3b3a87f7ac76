use Rattle.std.proofs.Common.{take}
use Rattle.cs_rows.specs.Counting.{AreMarked}
use Rattle.cs_rows.proofs.counting.list_all.Given as goal

abbrev pub invariant-loop-hit : goal.invariant-loop-hit
invariant-loop-hit l = AreMarked (take l.hit-index l.hits) l.fn.listed l.listed
