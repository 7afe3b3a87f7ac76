use Rattle.std.proofs.Common.{◌≡◌, map, take}
use Rattle.cs_docs.specs.LinesRead.{doc_of_lent}
use Rattle.cs_model.specs.Corpus.{title_of}
use Rattle.cs_indexing.proofs.collection.titles_of.Given as goal

abbrev pub invariant-loop-doc : goal.invariant-loop-doc
invariant-loop-doc l = l.titles.items ≡ map title_of (map doc_of_lent (take l.doc-index l.docs))
