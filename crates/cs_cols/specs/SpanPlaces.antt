-- The places of rows that pass a test, in a span of rows.
--
--   IsSpan from to rows room      the rows from number `from` up to `to` are some of so many, for whose places there is room
--   places_where t from to        the places from `from` up to `to` that pass t, ascending
--   is_listed_at listed docs i    the document at a place is listed
--   is_between_at lo hi words i   the word at a place has the number lo or more, and less than hi
use Rattle.std.specs.Prelude.{ℕ, ◌+◌, ◌-◌, ◌≤◌, ◌&&◌, Bool, false, nat_le, nat_lt, List, filter, slice_index_or}
use Rattle.std.specs.List.{range_with_len}

-- none where from is to
pub record IsSpan (from to rows room : ℕ) : Type 0 where
  pub onward : from ≤ to
  pub within : to ≤ rows
  pub fits : to ≤ from + room

-- [] where from is to
abbrev pub places_where : (ℕ → Bool) → ℕ → ℕ → List ℕ
places_where t from to = filter t (range_with_len from (to - from))

-- a document behind the last of the list isn't listed; document 0 stands behind the last place
abbrev pub is_listed_at : List Bool → List ℕ → ℕ → Bool
is_listed_at listed docs i = slice_index_or listed (slice_index_or docs i 0) false

-- word 0 stands behind the last place
abbrev pub is_between_at : ℕ → ℕ → List ℕ → ℕ → Bool
is_between_at lo hi words i = nat_le lo (slice_index_or words i 0) && nat_lt (slice_index_or words i 0) hi
