use Rattle.std.proofs.Common.{◌≡◌, map, take}
use Rattle.std.specs.Prelude.{flat_map}
use Rattle.cs_docs.specs.LinesRead.{doc_of_lent}
use Rattle.cs_vocab.specs.Gathering.{gathered}
use Rattle.cs_build.specs.RowColumns.{IsRowGathering, doc_rows_of, listed_words}
use Rattle.cs_build.proofs.row_columns.RowColumns.of_docs.Given as goal

abbrev pub invariant-loop-doc : goal.invariant-loop-doc
invariant-loop-doc l = record {
  words : gathered l.gathering.words ≡ flat_map listed_words (take l.doc-index (map doc_of_lent l.docs));
  docs : l.gathering.docs.items ≡ map doc_rows_of (take l.doc-index (map doc_of_lent l.docs));
  is : IsRowGathering l.gathering.words;
}
