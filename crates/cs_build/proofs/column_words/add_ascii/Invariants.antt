use Rattle.std.proofs.Common.{◌≡◌, ◌+◌, ◌++◌, length, IsAscii, chars}
use Rattle.cs_model.specs.Words.{words_of}
use Rattle.cs_vocab.specs.Gathering.{gathered}
use Rattle.cs_build.specs.RowColumns.{IsRowGathering}
use Rattle.cs_build.proofs.column_words.add_ascii.Given as goal

abbrev pub invariant-loop-word : goal.invariant-loop-word
invariant-loop-word l = record {
  words : gathered l.gathering ++ words_of (chars l.rest) ≡ gathered l.initial.gathering ++ words_of (chars l.key);
  count : l.count + length (words_of (chars l.rest)) ≡ length (words_of (chars l.key));
  is : IsRowGathering l.gathering;
  ascii : IsAscii l.rest;
}

abbrev pub decreases-loop-word : goal.decreases-loop-word
decreases-loop-word l = length l.rest
