use Rattle.std.proofs.Common.{◌≡◌, ◌++◌, map, length}
use Rattle.std.specs.Vec.Iter.{into_iter_items, into_iter_len}
use Rattle.cs_model.specs.Corpus.{title_of}
use Rattle.cs_build.proofs.building.titles_of.Given as goal

abbrev pub invariant-loop-doc : goal.invariant-loop-doc
invariant-loop-doc l = record {
  told : map title_of l.fn.docs ≡ l.titles.items ++ map title_of (into_iter_items l.doc-iterator);
  left : into_iter_len l.doc-iterator ≡ length (into_iter_items l.doc-iterator);
}
