use Rattle.std.proofs.Common.{◌≡◌, map}
use Rattle.std.specs.Str.{chars}
use Rattle.cs_text.specs.WordPieces.{words_of_pieces}
use Rattle.cs_text.proofs.listing.words_of.Given as goal

abbrev pub invariant-loop-piece : goal.invariant-loop-piece
invariant-loop-piece l = l.found.items ≡ words_of_pieces (map (λ x. chars x.now) l.yielded)
