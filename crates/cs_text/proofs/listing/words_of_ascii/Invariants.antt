use Rattle.std.proofs.Common.{◌≡◌, ◌++◌, IsAscii, chars, length}
use Rattle.cs_model.specs.Words.{words_of}
use Rattle.cs_text.proofs.listing.words_of_ascii.Given as goal

abbrev pub invariant-loop-word : goal.invariant-loop-word
invariant-loop-word l = record {
  told : l.found.items ++ words_of (chars l.left) ≡ words_of (chars l.key);
  ascii : IsAscii l.left;
}

abbrev pub decreases-loop-word : goal.decreases-loop-word
decreases-loop-word l = length l.left
