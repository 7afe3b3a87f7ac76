use Rattle.std.proofs.Common.{◌≡◌, map, take}
use Rattle.cs_docs.specs.LinesRead.{doc_of_lent}
use Rattle.cs_docs.proofs.reader.read_docs.Given as goal

abbrev pub invariant-loop-doc : goal.invariant-loop-doc
invariant-loop-doc l = l.docs ≡ map doc_of_lent (take l.doc-index l.doc-items)
