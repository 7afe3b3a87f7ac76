use Rattle.std.proofs.Common.{◌≡◌, ◌+◌, ◌*◌, ◌^◌, ◌≤◌, true}
use Rattle.cs_block.proofs.RunsLemmas.{DocsTo}
use Rattle.cs_block.proofs.run_docs.pair_docs.Given as goal

abbrev pub invariant-loop-i : goal.invariant-loop-i
invariant-loop-i l = record {
  made : l.holds ≡ true → DocsTo l.gaps l.at l.before l.out l.i l.next l.doc;
  small : l.doc ≤ l.before + 2 ^ 15 * l.i;
  far : l.next ≤ l.at + 2 * l.i;
}
