use Rattle.std.proofs.Common.{◌<◌, ◌^◌}
use Rattle.cs_block.proofs.RunsLemmas.{DocsTo}
use Rattle.cs_block.proofs.run_docs.long_docs.Given as goal

abbrev pub invariant-loop-i : goal.invariant-loop-i
invariant-loop-i l = record {
  made : DocsTo l.gaps l.at l.before l.out l.i l.next l.doc;
  below : 0 < l.i → l.doc < l.docs;
  small : l.doc < 2 ^ 32;
}
