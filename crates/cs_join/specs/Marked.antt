-- A table of marks for numbers of words.
--
--   is_marked least marks w        the word w is marked in a table that begins at the word least
--   has_mark least marks r         the word of the row r is
--   AreMarksOf words least marks   exactly these words are
use Rattle.std.specs.Prelude.{◌≡◌, ℕ, ◌-◌, Bool, false, ◌&&◌, ◌==◌, nat_le, List, slice_index_or}
use Rattle.std.specs.List.{list_any}
use Rattle.cs_base.specs.declared.content.doc.Post.{Post}

-- the mark at the word's distance from the least; below the least and behind the table no word is marked
abbrev pub is_marked : ℕ → List Bool → ℕ → Bool
is_marked least marks w = nat_le least w && slice_index_or marks (w - least) false

-- the word of a row is marked; in an empty table it isn't
abbrev pub has_mark : ℕ → List Bool → Post → Bool
has_mark least marks r = is_marked least marks r.word

-- each of the words is marked, and no other one; of no words none
abbrev pub AreMarksOf : List ℕ → ℕ → List Bool → Type 0
AreMarksOf words least marks = (w : ℕ) → is_marked least marks w ≡ list_any (λ v. v == w) words
