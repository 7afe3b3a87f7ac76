use Rattle.cs_block.proofs.ListedRows.{ListedTo}
use Rattle.cs_block.proofs.listing.list_rows.Given as goal

abbrev pub invariant-loop-i : goal.invariant-loop-i
invariant-loop-i l = ListedTo l.head l.docs l.gaps l.words l.i l.at l.before l.bad_word l.row_docs l.row_words
