use Rattle.std.proofs.Common.{◌≡◌, map, string_bytes}
use Rattle.std.specs.Str.{chars}
use Rattle.std.specs.List.{join_with_byte}
use Rattle.cs_text.specs.WordPieces.{words_of_pieces}
use Rattle.cs_text.proofs.value.joined_words.Given as goal

abbrev pub invariant-loop-piece : goal.invariant-loop-piece
invariant-loop-piece l = string_bytes l.joined ≡ join_with_byte 95 (words_of_pieces (map (λ x. chars x.now) l.yielded))
