-- The words of a text, and the slug that a facet's value is written by.
--
-- Source: General_Category is that of Unicode Standard Annex 44, in the tables that the cited crates carry. What is a word,
-- and where it is cut, is this engine's own.
--
--   is_word_category k   whether the category k is in one of the groups L, M and N
--   is_word_char c       whether the character c is part of a word
--   is_gap c             whether it is not
--   is_filled xs         whether the list xs has an entry, as a run or a line has; the empty list hasn't
--   runs cs              the maximal runs of word characters among the characters cs, in order; none where each is a gap
--   fitting room cs      the longest prefix of cs whose characters take at most `room` bytes together; none of no characters
--   cut cs               the bytes of the longest prefix of cs that takes at most 120 of them
--   words_of cs          the words that the characters cs have: their runs, each cut
--   words s              the words of the text s, by its key text; none where no character is part of a word
--   slug_of ws           the words ws with `_` between each two, cut; None where there is no word
--   slug s               the slug of the text s; None exactly where s has no word
--
-- A run that is cut is one word, as every other run is. A word has no `_` and no `:`.
use Rattle.std.specs.Prelude.{ℕ, ◌-◌, Bool, ◌||◌, not, nat_lt, nat_le, if◌then◌else◌, List, [], ◌∷◌, map, filter, length, chars, encode_utf8_all, Option, Some, None}
use Rattle.std.specs.Char.{is_ascii_alphanumeric, len_utf8}
use Rattle.std.specs.List.{slice_split, join_with_byte}
use Rattle.unicode.specs.GeneralCategory.{general_category}
use Rattle.unicode.specs.GeneralCategoryGroup.{in_group}
use Rattle.ucd_category.specs.declared.GeneralCategory.{GeneralCategory}
use Rattle.ucd_category.specs.declared.GeneralCategoryGroup.TheVariants.{Letter, Mark, Number}
use Rattle.cs_base.specs.content.Bytes.{low_line, ascii_end}
use Rattle.cs_base.specs.declared.content.limits.TheConstants.{MAX_PLAIN_WORD_BYTES}
use Rattle.cs_model.specs.KeyText.{norm}

-- a category of letters, marks or numbers; all others, as those of signs, aren't
abbrev pub is_word_category : GeneralCategory → Bool
is_word_category k = in_group Letter k || in_group Mark k || in_group Number k

-- a letter, a mark or a number; below U+0080 the ASCII letters and digits alone, so `_` is none
unfoldable pub is_word_char : ℕ → Bool
is_word_char c = if nat_lt c ascii_end then is_ascii_alphanumeric c else is_word_category (general_category c)

-- a character that is no part of a word, as the space, `_` and `:` are
abbrev pub is_gap : ℕ → Bool
is_gap c = not (is_word_char c)

-- a list that has an entry; the empty list hasn't
abbrev pub is_filled : {X : Type 0} → List X → Bool
is_filled xs = nat_lt 0 (length xs)

-- the maximal runs of word characters, from the left; none where each character is a gap
abbrev pub runs : List ℕ → List (List ℕ)
runs cs = filter is_filled (slice_split is_gap cs)

-- as many whole characters from the front as there is room for, in bytes; all where they fit, none where the first one
-- doesn't
abbrev pub fitting : ℕ → List ℕ → List ℕ
fitting room [] = []
fitting room (c ∷ cs) = if nat_le (len_utf8 c) room then c ∷ fitting (room - len_utf8 c) cs else []

-- the bytes of characters, cut to 120 by whole characters; where they take no more, all of them
unfoldable pub cut : List ℕ → List ℕ
cut cs = encode_utf8_all (fitting MAX_PLAIN_WORD_BYTES cs)

-- the words among characters, one for each run; none where there is no run
abbrev pub words_of : List ℕ → List (List ℕ)
words_of cs = map cut (runs cs)

-- the words of a text, those of its key text; none for the empty text
unfoldable pub words : List ℕ → List (List ℕ)
words s = words_of (chars (norm s))

-- words joined by `_`, and cut as a word is; None where there is no word
abbrev pub slug_of : List (List ℕ) → Option (List ℕ)
slug_of [] = None
slug_of (w ∷ ws) = Some (cut (chars (join_with_byte low_line (w ∷ ws))))

-- the slug of a text; None where the text has no word
abbrev pub slug : List ℕ → Option (List ℕ)
slug s = slug_of (words s)
