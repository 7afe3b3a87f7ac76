-- Rows by their posts, and posts by their rows: a word's number is its place in a vocabulary.
--
-- Source: this engine's own. A vocabulary is a list of words that strictly ascend by bytes.
--
--   word_at ws n         word n; the empty text where there are fewer words
--   word_number ws w     the place of a word in the vocabulary, from 0; the number of words where it isn't there
--   row_of ws p          the row that a post stands for
--   post_of ws r         the post that stands for a row
--   rows_at ws posts     the rows that posts stand for; of no posts none
--   numbered ws rows     the posts that stand for rows; of no rows none
--   HasWord ws r         the row's word is in the vocabulary
use Rattle.std.specs.Prelude.{◌≡◌, ℕ, true, List, [], map, slice_index_or}
use Rattle.std.specs.List.{list_any, position_or_len}
use Rattle.std.specs.Str.{bytes_eq}
use Rattle.cs_base.specs.declared.content.doc.Post.{Post}
use Rattle.cs_base.specs.declared.content.doc.Row.{Row}

-- the first word has the number 0; past the last word the empty text
abbrev pub word_at : List (List ℕ) → ℕ → List ℕ
word_at ws n = slice_index_or ws n []

-- the first word has the number 0; a word that isn't there the number of words
abbrev pub word_number : List (List ℕ) → List ℕ → ℕ
word_number ws w = position_or_len (bytes_eq w) ws

-- its word in place of the word's number, which is empty where there are fewer words
abbrev pub row_of : List (List ℕ) → Post → Row
row_of ws p = record { doc = p.doc; word = word_at ws p.word; pos = p.pos; score = p.score }

-- the number in place of its word, which is the number of words where the word isn't there
abbrev pub post_of : List (List ℕ) → Row → Post
post_of ws r = record { doc = r.doc; word = word_number ws r.word; pos = r.pos; score = r.score }

-- in the order of the posts; of no posts none
abbrev pub rows_at : List (List ℕ) → List Post → List Row
rows_at ws posts = map (row_of ws) posts

-- in the order of the rows; of no rows none
abbrev pub numbered : List (List ℕ) → List Row → List Post
numbered ws rows = map (post_of ws) rows

-- some word of the vocabulary is the row's; of no words none is
abbrev pub HasWord : List (List ℕ) → Row → Type 0
HasWord ws r = list_any (bytes_eq r.word) ws ≡ true
