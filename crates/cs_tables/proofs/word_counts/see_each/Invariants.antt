use Rattle.std.proofs.Common.{◌≡◌, length}
use Rattle.cs_tables.proofs.WordCountsLemmas.{CountsFront}
use Rattle.cs_tables.proofs.word_counts.see_each.Given as goal

abbrev pub invariant-loop-i : goal.invariant-loop-i
invariant-loop-i l = record {
  counted : CountsFront l.low l.high l.rows l.i l.fn.marks l.marks;
  sized : length l.marks ≡ length l.fn.marks;
}
