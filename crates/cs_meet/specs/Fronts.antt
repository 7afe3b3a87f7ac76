-- The fronts of lists that are merged, as numbers in a tree.
--
-- A front is the first post of a list that isn't taken yet. Its number has the post's place first and the list's number last, so the least number
-- is that of the least place, and of fronts that share it that of the first list. The tree has the fronts of n lists at n and behind it, and at
-- each place i before them the lesser of what stands at 2 i and behind it: so the least of all stands at 1.
--
-- Source: Donald Knuth, The Art of Computer Programming, volume 3, section 5.4.1, "Multiway merging and replacement selection", as a tree of
-- winners that are numbers.
--
--   place_number p       a number of the document, the position and the word of a post, in the order of these
--   front_number p list        the number of a front
--   IsNarrow p           a post whose numbers have room
--   IsFrontNumber p list key   the number of such a post at the front of a list
--   IsFrontAt posts head list key      the number of the front of a list of which so many posts are taken
--   IsTree n tree        at each place before the fronts stands the lesser of two
--   AreFronts n lists head tree      the fronts of n lists, of which so many posts each are taken
use Rattle.std.specs.Prelude.{◌≡◌, ℕ, ◌+◌, ◌*◌, ◌^◌, ◌≤◌, ◌<◌, List, [], length, min, slice_index, slice_index_or}
use Rattle.cs_base.specs.declared.content.doc.Post.{Post}
use Rattle.cs_meet.specs.declared.fronts.TheConstants.{NO_FRONT, ROOM}

-- two posts that have one share a place
abbrev pub place_number : Post → ℕ
place_number p = (p.doc * ROOM + p.pos) * ROOM + p.word

-- the place first, then the list
abbrev pub front_number : Post → ℕ → ℕ
front_number p list = place_number p * ROOM + list

-- each post in memory is
pub record IsNarrow (p : Post) : Type 0 where
  pub doc : p.doc < ROOM
  pub pos : p.pos < ROOM
  pub word : p.word < ROOM

-- its number tells its place
pub record IsFrontNumber (p : Post) (list key : ℕ) : Type 0 where
  pub is : key ≡ front_number p list
  pub narrow : IsNarrow p

-- that of no front where all are taken; posts in memory can be counted
pub record IsFrontAt (posts : List Post) (head list key : ℕ) : Type 0 where
  pub small : length posts < 2 ^ 63
  pub there : (e : Post) → head < length posts → IsFrontNumber (slice_index_or posts head e) list key
  pub past : length posts ≤ head → key ≡ NO_FRONT

-- of n lists; at 0 stands any number
pub record IsTree (n : ℕ) (tree : List ℕ) : Type 0 where
  pub len : length tree ≡ 2 * n
  pub least : (i : ℕ) → 1 ≤ i → i < n → slice_index tree i ≡ min (slice_index tree (2 * i)) (slice_index tree (2 * i + 1))

-- each list's own, in the order of the lists
abbrev pub AreFronts : ℕ → List (List Post) → (ℕ → ℕ) → List ℕ → Type 0
AreFronts n lists head tree = (k : ℕ) → k < n → IsFrontAt (slice_index_or lists k []) (head k) k (slice_index tree (n + k))
