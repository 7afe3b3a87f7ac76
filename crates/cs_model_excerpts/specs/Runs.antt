-- The shortest run of words in which each part has a mark.
--
-- Source: this engine's own.
--
-- A mark says that a word serves a part; of a part there is one for each word. Places are from 0, and a run is its first and its last
-- place.
--
--   has_mark_at marks j          the word at place j has a mark; one behind the last hasn't
--   has_mark_within a b marks    some word from place a through b has a mark
--   covers parts r               each part has a mark in the run r
--   runs_of_length n more        the runs of n words whose last word is so many places behind the first, from the left
--   text_runs n                  the runs of n words: shorter ones first, and those of one length from the left; of no word none
--   shortest parts n             the first of them that covers; None where none does
--   IsShortest parts n r         r covers, no shorter run of n words does, and none as long that begins before it
--   IsBest parts n o             the run o is that; where o is None, no run covers
use Rattle.std.specs.Prelude.{◌≡◌, ℕ, suc, ◌+◌, ◌-◌, ◌<◌, ◌≤◌, Bool, true, false, List, map, Option, Some, None, get_or}
use Rattle.std.specs.List.{find, flat_map, list_all, list_any, range_with_len}

-- the word at this place has a mark; one behind the last mark hasn't
abbrev pub has_mark_at : List Bool → ℕ → Bool
has_mark_at marks j = get_or marks j false

-- some word from place a through b has a mark; where b is less than a none
abbrev pub has_mark_within : ℕ → ℕ → List Bool → Bool
has_mark_within a b marks = list_any (has_mark_at marks) (range_with_len a (suc b - a))

-- each part has a mark in the run; of no parts each run covers all
unfoldable pub covers : List (List Bool) → ℕ × ℕ → Bool
covers parts r = list_all (has_mark_within r.0 r.1) parts

-- the runs among n words whose last word is so many places behind the first, from the left; a single word is no place behind
abbrev pub runs_of_length : ℕ → ℕ → List (ℕ × ℕ)
runs_of_length n more = map (λ a. (a, a + more)) (range_with_len 0 (n - more))

-- the runs among n words, shorter ones first and those of one length from the left; of no word none
abbrev pub text_runs : ℕ → List (ℕ × ℕ)
text_runs n = flat_map (runs_of_length n) (range_with_len 0 n)

-- the first run that covers; None where none does, as where a part has no mark
abbrev pub shortest : List (List Bool) → ℕ → Option (ℕ × ℕ)
shortest parts n = find (covers parts) (text_runs n)

-- a run of n words that covers; each other that does is longer, or as long and doesn't begin before it
pub record IsShortest (parts : List (List Bool)) (n : ℕ) (r : ℕ × ℕ) : Type 0 where
  pub forward : r.0 ≤ r.1
  pub below : r.1 < n
  pub passes : covers parts r ≡ true
  pub short : (a b : ℕ) → a ≤ b → b < n → covers parts (a, b) ≡ true → r.1 - r.0 ≤ b - a
  pub first : (a b : ℕ) → a ≤ b → b < n → covers parts (a, b) ≡ true → r.1 - r.0 ≡ b - a → r.0 ≤ a

-- the shortest run; where there is none, no run of n words covers
abbrev pub IsBest : List (List Bool) → ℕ → Option (ℕ × ℕ) → Type 0
IsBest parts n None = (a b : ℕ) → a ≤ b → b < n → covers parts (a, b) ≡ false
IsBest parts n (Some r) = IsShortest parts n r
