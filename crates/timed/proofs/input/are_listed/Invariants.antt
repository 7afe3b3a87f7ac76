use Rattle.std.proofs.Common.{ℕ, ◌+◌, ◌<◌, ◌≤◌, ◌^◌, get_or}
use Rattle.cs_base.specs.declared.content.doc.Scored.{Scored}
use Rattle.timed.proofs.input.are_listed.Given as goal

abbrev pub invariant-loop-i : goal.invariant-loop-i
invariant-loop-i l = record {
  sorted : (k : ℕ) (e : Scored) → k + 1 < l.i → (get_or l.listed k e).doc < (get_or l.listed (k + 1) e).doc;
  low : (k : ℕ) (e : Scored) → k < l.i → (get_or l.listed k e).score ≤ 2 ^ 20;
}
