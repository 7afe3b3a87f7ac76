use Rattle.cs_tables.proofs.WordCountsLemmas.{CountsFront, one_marked}
use Rattle.cs_tables.proofs.word_counts.see_one.Given as goal

abbrev pub invariant-loop-doc : goal.invariant-loop-doc
invariant-loop-doc l = CountsFront l.low l.high l.rows l.doc-index l.marks (one_marked l.low l.high l.rows l.marks l.mark)
