-- What was found in a span of documents or of rows.
--
-- Source: this engine's own.
--
--   hit_at best d            a document with the score that a table has of it
--   has_entry_at best d      whether the entry of a document says that it has a row
--   HasEntry best d          a document of the table has a row
--   AreHitsBetween best from to docs     the documents that have a row, from one up to another
--   ArePlacesBetween lo hi rows d from to places     the places of the rows of some words, from one place up to another
use Rattle.std.specs.Prelude.{◌≡◌, ℕ, ◌<◌, Bool, nat_lt, List, ◌++◌, drop, filter, length, map, slice_index, slice_index_or}
use Rattle.cs_base.specs.declared.content.doc.Post.{Post}
use Rattle.cs_base.specs.declared.content.doc.Scored.{Scored}
use Rattle.cs_rows.specs.BestScores.{hits_in}
use Rattle.cs_rows.specs.Stocked.{is_between}

-- with score 0 where it has no row
abbrev pub hit_at : List ℕ → ℕ → Scored
hit_at best d = record { doc = d; score = slice_index best d }

-- not so behind the last
abbrev pub has_entry_at : List ℕ → ℕ → Bool
has_entry_at best d = nat_lt 0 (slice_index best d)

-- none behind the last
abbrev pub HasEntry : List ℕ → ℕ → Type 0
HasEntry best d = (d < length best) × (0 < slice_index best d)

-- none where from is to
abbrev pub AreHitsBetween : List ℕ → ℕ → ℕ → List ℕ → Type 0
AreHitsBetween best from to docs = map (hit_at best) docs ++ hits_in to (drop to best) ≡ hits_in from (drop from best)

-- none where from is to; d stands where a place has no row, which none of these is
abbrev pub ArePlacesBetween : ℕ → ℕ → List Post → Post → ℕ → ℕ → List ℕ → Type 0
ArePlacesBetween lo hi rows d from to places = map (λ i. slice_index_or rows i d) places ++ filter (is_between lo hi) (drop to rows)
    ≡ filter (is_between lo hi) (drop from rows)
