use Rattle.std.proofs.Common.{◌≡◌, ◌++◌, drop}
use Rattle.cs_vocab.proofs.vocab.listing.Given as goal

abbrev pub invariant-loop-place : goal.invariant-loop-place
invariant-loop-place l = l.gathered ≡ l.sorted.items ++ drop l.place l.gathered

abbrev pub invariant-loop-sorting : goal.invariant-loop-sorting
invariant-loop-sorting l = l.sorting-items ≡ l.words.items ++ drop l.sorting-index l.sorting-items
