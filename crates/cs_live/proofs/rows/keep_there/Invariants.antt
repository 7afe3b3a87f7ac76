use Rattle.std.proofs.Common.{◌≡◌, ◌≤◌, ℕ, get_or, take}
use Rattle.cs_live.proofs.RowsInPlace.{AreFirst}
use Rattle.cs_live.proofs.rows.keep_there.Given as goal

abbrev pub invariant-loop-i : goal.invariant-loop-i
invariant-loop-i l = record {
  first : AreFirst l.shift l.present l.fn.docs l.fn.words l.fn.scores l.i (take l.kept l.docs) (take l.kept l.words) (take l.kept l.scores);
  few : l.kept ≤ l.i;
  docs_on : (k : ℕ) → l.i ≤ k → get_or l.docs k 0 ≡ get_or l.fn.docs k 0;
  words_on : (k : ℕ) → l.i ≤ k → get_or l.words k 0 ≡ get_or l.fn.words k 0;
  scores_on : (k : ℕ) → l.i ≤ k → get_or l.scores k 0 ≡ get_or l.fn.scores k 0;
}
