use Rattle.std.proofs.Common.{ℕ, ◌<◌, ◌≤◌, get_or}
use Rattle.cs_join.proofs.marks.span_of.Given as goal

abbrev pub invariant-loop-word : goal.invariant-loop-word
invariant-loop-word l = record {
  order : l.least ≤ l.greatest;
  least : (k : ℕ) → k < l.word-index → l.least ≤ get_or l.words k 0;
  greatest : (k : ℕ) → k < l.word-index → get_or l.words k 0 ≤ l.greatest;
}
