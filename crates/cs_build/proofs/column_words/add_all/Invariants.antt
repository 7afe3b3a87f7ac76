use Rattle.std.proofs.Common.{◌≡◌, ◌++◌, take}
use Rattle.cs_vocab.specs.Gathering.{gathered}
use Rattle.cs_build.specs.RowColumns.{IsRowGathering}
use Rattle.cs_build.proofs.column_words.add_all.Given as goal

abbrev pub invariant-loop-word : goal.invariant-loop-word
invariant-loop-word l = record {
  words : gathered l.gathering ≡ gathered l.initial.gathering ++ take l.word-index l.words;
  is : IsRowGathering l.gathering;
}
