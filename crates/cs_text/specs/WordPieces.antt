-- What the pieces of a text between gaps give, some of which may be empty, and the words that are their own slugs.
--
--   words_of_pieces pieces  the words of the pieces, each by its characters
--   joined_with bytes ws   the bytes and then the first of ws, with `_` between the two where there are bytes
--   is_small_word bytes    whether the bytes are one word of letters a to z and digits
use Rattle.std.specs.Prelude.{ℕ, Bool, ◌&&◌, nat_le, List, [], ◌∷◌, ◌++◌, map, filter, length}
use Rattle.std.specs.List.{list_all}
use Rattle.cs_base.specs.declared.content.limits.TheConstants.{MAX_PLAIN_WORD_BYTES}
use Rattle.cs_model.specs.Collection.{is_name_byte}
use Rattle.cs_model.specs.Words.{is_filled, cut}

-- a word for each piece that has characters
abbrev pub words_of_pieces : List (List ℕ) → List (List ℕ)
words_of_pieces pieces = map cut (filter is_filled pieces)

-- the bytes alone where ws has no word
abbrev pub joined_with : List ℕ → List (List ℕ) → List ℕ
joined_with bytes [] = bytes
joined_with [] (w ∷ ws) = w
joined_with (b ∷ bytes) (w ∷ ws) = (b ∷ bytes) ++ (95 ∷ w)

-- 1 to 120 letters a to z and digits; the empty text isn't a word
abbrev pub is_small_word : List ℕ → Bool
is_small_word bytes = is_filled bytes && (nat_le (length bytes) MAX_PLAIN_WORD_BYTES && list_all is_name_byte bytes)
