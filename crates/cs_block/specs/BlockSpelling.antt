-- What the four columns ask of the rows that are written.
--
--   HasFields lo before r      a row whose numbers have a spelling behind a document
--   HasSpelling lo before rs   rows whose numbers have one, the first behind a document
--   IsAscending before rs      documents that don't descend, the first not below a document
--   HasWords lo rs             words of two bytes from lo on
use Rattle.std.specs.Prelude.{ℕ, ◌+◌, ◌-◌, ◌^◌, ◌<◌, ◌≤◌, List, [], ◌∷◌}
use Rattle.cs_base.specs.declared.content.doc.Post.{Post}

-- each of a row's numbers has a spelling, where the row before is in the document `before`
pub record HasFields (lo before : ℕ) (r : Post) : Type 0 where
  pub onward : before ≤ r.doc
  pub gap : r.doc - before < 2 ^ 32
  pub word_from : lo ≤ r.word
  pub word_below : r.word < lo + 2 ^ 16
  pub pos : r.pos < 2 ^ 32
  pub score : r.score < 256

-- of no rows nothing is asked
unfoldable pub HasSpelling : ℕ → ℕ → List Post → Type 0
HasSpelling lo before [] = Unit {0}
HasSpelling lo before (r ∷ rs) = HasFields lo before r × HasSpelling lo r.doc rs

-- no document is below that of the row before; of no rows nothing is asked
unfoldable pub IsAscending : ℕ → List Post → Type 0
IsAscending before [] = Unit {0}
IsAscending before (r ∷ rs) = (before ≤ r.doc) × IsAscending r.doc rs

-- each word's number from lo on has two bytes; of no rows nothing is asked
unfoldable pub HasWords : ℕ → List Post → Type 0
HasWords lo [] = Unit {0}
HasWords lo (r ∷ rs) = (lo ≤ r.word) × (r.word < lo + 2 ^ 16) × HasWords lo rs
