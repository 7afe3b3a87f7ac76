-- Filters and merges of posts, as filters and unions of lists. Phrases and nearness are those of Bast and
-- Weber (SIGIR 2006): they ask for positions of title and text words, which begin at 1; facets stand at 0.
--
--   keep_docs rows docs      the rows in a listed document
--   follow a b               the rows of b one position behind a row of a
--   near a b                 the rows of b from 1 to MAX_DISTANCE positions before or behind a row of a
--   shares_place r x         x has the document, position and word of r
--   IsUnion rows posts       posts are the first rows at each place
--   drop_docs base rows      the scored documents that have no row
use Rattle.std.specs.Prelude.{◌≡◌, ℕ, ◌+◌, ◌-◌, Bool, ◌&&◌, not, true, ◌==◌, nat_lt, nat_le, List, Some}
use Rattle.std.specs.List.{All, filter, find, list_any}
use Rattle.cs_base.specs.declared.content.limits.TheConstants.{MAX_DISTANCE}
use Rattle.cs_base.specs.declared.content.doc.Post.{Post}
use Rattle.cs_base.specs.declared.content.doc.Scored.{Scored}

-- the row is in document d
abbrev pub is_of_doc : Post → ℕ → Bool
is_of_doc r d = d == r.doc

-- the rows whose document is listed; none where none is
abbrev pub keep_docs : List Post → List ℕ → List Post
keep_docs rows docs = filter (λ r. list_any (is_of_doc r) docs) rows

-- r stands one position behind x in the same document, both at 1 or more
abbrev pub stands_behind : Post → Post → Bool
stands_behind r x = (x.doc == r.doc) && (nat_lt 0 x.pos && (x.pos + 1 == r.pos))

-- the rows of b that stand one position behind a row of a; none where a has none
abbrev pub follow : List Post → List Post → List Post
follow a b = filter (λ r. list_any (stands_behind r) a) b

-- how far two positions are apart; 0 where they are the same
abbrev pub distance : ℕ → ℕ → ℕ
distance p q = (p - q) + (q - p)

-- r and x stand from 1 to MAX_DISTANCE positions apart in the same document, both at 1 or more
abbrev pub is_near : Post → Post → Bool
is_near r x = (x.doc == r.doc) && (nat_lt 0 x.pos && (nat_lt 0 r.pos && (nat_lt 0 (distance x.pos r.pos) && nat_le (distance x.pos r.pos) MAX_DISTANCE)))

-- the rows of b near a row of a; none where a has none
abbrev pub near : List Post → List Post → List Post
near a b = filter (λ r. list_any (is_near r) a) b

-- x has the document, the position and the word of r
abbrev pub shares_place : Post → Post → Bool
shares_place r x = (x.doc == r.doc) && ((x.pos == r.pos) && (x.word == r.word))

-- each of the posts is the first row at its place, and each row shares its place with one of them; of no rows there is no post
pub record IsUnion (rows posts : List Post) : Type 0 where
  pub first : All (λ p. find (shares_place p) rows ≡ Some p) posts
  pub placed : All (λ r. list_any (shares_place r) posts ≡ true) rows

-- the row is in the scored document
abbrev pub is_of : Scored → Post → Bool
is_of h r = r.doc == h.doc

-- the scored documents that have no row; all where there is none
abbrev pub drop_docs : List Scored → List Post → List Scored
drop_docs base rows = filter (λ h. not (list_any (is_of h) rows)) base
