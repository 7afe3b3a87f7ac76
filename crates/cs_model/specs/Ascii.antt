-- Key texts and words of ASCII text, byte by byte.
--
-- Source: none of its own. These are KeyText and Words with no table of Unicode, and a law of this crate says that on ASCII
-- text both give the same.
--
--   ascii_norm s     the text s with its capital letters lower-cased; the empty text is its own key text
--   is_ascii_gap b   whether the byte b is no ASCII letter and no digit
--   ascii_words s    the maximal runs of letters and digits of ascii_norm s, each cut to its first 120 bytes; none where
--                    there is no run
use Rattle.std.specs.Prelude.{ℕ, Bool, not, List, map, filter, take}
use Rattle.std.specs.Char.{is_ascii_alphanumeric, to_ascii_lowercase}
use Rattle.std.specs.List.{slice_split}
use Rattle.cs_base.specs.declared.content.limits.TheConstants.{MAX_PLAIN_WORD_BYTES}
use Rattle.cs_model.specs.Words.{is_filled}

-- the key text of an ASCII text; the empty text is its own key text
abbrev pub ascii_norm : List ℕ → List ℕ
ascii_norm s = map to_ascii_lowercase s

-- a byte that is no letter and no digit of ASCII, as the space and each byte above 127 are
abbrev pub is_ascii_gap : ℕ → Bool
is_ascii_gap b = not (is_ascii_alphanumeric b)

-- the words of an ASCII text; none where it has no letter and no digit
abbrev pub ascii_words : List ℕ → List (List ℕ)
ascii_words s = map (take MAX_PLAIN_WORD_BYTES) (filter is_filled (slice_split is_ascii_gap (ascii_norm s)))
