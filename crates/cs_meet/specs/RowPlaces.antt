-- What a pass over sorted posts knows on its way.
--
--   is_before x d p          x stands in an earlier document than d, or in d before position p
--   AllBefore posts n d p    the first n posts are before position p of document d
--   IsNotBefore posts n d p  the post at n isn't before position p of document d, if there is one
--   Splits posts n d p       n is the first place that isn't before position p of document d
--   Ahead doc pos a b i j    the first i posts of a are before the place that each entry of b from j on asks for
--   AllBelow docs n d        the first n documents are less than d
--   AheadOf doc docs b i j   the first i documents are less than the document of each entry of b from j on
--   SplitsDocs docs n d      n is the first place whose document isn't less than d
--   LiesBetween docs from end d      the first place whose document isn't less than d is one of those from `from` up to end, or end
--   near_at posts n r        there is a post at n, and it stands near r
use Rattle.std.specs.Prelude.{◌≡◌, ℕ, ◌<◌, ◌≤◌, Bool, true, false, ◌&&◌, ◌||◌, ◌==◌, nat_lt, List, length, slice_index_or, slice_index}
use Rattle.cs_base.specs.declared.content.doc.Post.{Post}
use Rattle.cs_meet.specs.Filters.{is_near}

-- x stands in an earlier document than d, or in d before position p
abbrev pub is_before : Post → ℕ → ℕ → Bool
is_before x d p = nat_lt x.doc d || ((x.doc == d) && nat_lt x.pos p)

-- the first n posts are before position p of document d
abbrev pub AllBefore : List Post → ℕ → ℕ → ℕ → Type 0
AllBefore posts n d p = (k : ℕ) (e : Post) → k < n → is_before (slice_index_or posts k e) d p ≡ true

-- the post at n isn't before position p of document d; of the end nothing is said
abbrev pub IsNotBefore : List Post → ℕ → ℕ → ℕ → Type 0
IsNotBefore posts n d p = (e : Post) → n < length posts → is_before (slice_index_or posts n e) d p ≡ false

-- n is the first place that isn't before position p of document d, or the end
pub record Splits (posts : List Post) (n d p : ℕ) : Type 0 where
  pub within : n ≤ length posts
  pub before : AllBefore posts n d p
  pub stop : IsNotBefore posts n d p

-- the first i posts of a are before the place, by doc and pos, that each entry of b from j on asks for
pub record Ahead {B : Type 0} (doc pos : B → ℕ) (a : List Post) (b : List B) (i j : ℕ) : Type 0 where
  pub within : i ≤ length a
  pub before : (m : ℕ) (e : B) → j ≤ m → m < length b → AllBefore a i (doc (slice_index_or b m e)) (pos (slice_index_or b m e))

-- there is a post at n, and it stands near r
abbrev pub near_at : List Post → ℕ → Post → Bool
near_at posts n r = nat_lt n (length posts) && is_near r (slice_index_or posts n r)

-- the first n documents are less than d
abbrev pub AllBelow : List ℕ → ℕ → ℕ → Type 0
AllBelow docs n d = (k : ℕ) → k < n → slice_index docs k < d

-- n is the first place whose document isn't less than d, or the end
pub record SplitsDocs (docs : List ℕ) (n d : ℕ) : Type 0 where
  pub within : n ≤ length docs
  pub below : AllBelow docs n d
  pub stop : n < length docs → d ≤ slice_index docs n

-- the first place whose document isn't less than d is one of those from `from` up to end, or end itself
pub record LiesBetween (docs : List ℕ) (from end d : ℕ) : Type 0 where
  pub order : from ≤ end
  pub within : end ≤ length docs
  pub below : AllBelow docs from d
  pub stop : end < length docs → d ≤ slice_index docs end

-- the first i documents are less than the document of each entry of b from j on
pub record AheadOf {B : Type 0} (doc : B → ℕ) (docs : List ℕ) (b : List B) (i j : ℕ) : Type 0 where
  pub within : i ≤ length docs
  pub below : (m : ℕ) (e : B) → j ≤ m → m < length b → AllBelow docs i (doc (slice_index_or b m e))
