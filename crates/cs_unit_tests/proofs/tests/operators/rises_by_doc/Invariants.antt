use Rattle.std.proofs.Common.{ℕ, ◌+◌, ◌<◌, get_or}
use Rattle.cs_base.specs.declared.content.doc.Scored.{Scored}
use Rattle.cs_unit_tests.proofs.tests.operators.rises_by_doc.Given as goal

abbrev pub invariant-loop-j : goal.invariant-loop-j
invariant-loop-j l = (k : ℕ) (e : Scored) → k + 1 < l.j → (get_or l.base k e).doc < (get_or l.base (k + 1) e).doc
