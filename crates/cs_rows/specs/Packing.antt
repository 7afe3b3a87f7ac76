-- Posts as numbers, so that one sort of numbers brings posts into their order.
--
-- A number keeps which column a post's score is the weight of, which has two bits, and never the score, which may have eight. The same
-- weights give the score back, also where two of them are equal: of a packed post p, `post_of_key w (key_of w p)` is p.
--
-- Source: this engine's own.
--
--   column_of w score        the first column whose weight a score is, by number: a facet's, a title's, a text's
--   column_scores w          the weights by column
--   score_of w column        the weight of a column
--   is_weight w score        the score is one of the weights
--   IsPacked w p             a post that has a number: each of its parts has room, and its score is one of the weights
--   key_of w p               its number: document, position, word and column, one behind the other
--   place_of_key key         the number without the column
--   doc_of_key key, word_of_key key     the document and the word of a number
--   post_of_key w key        the post of a number
--   apart last keys          the numbers whose place isn't that of the one before; last is the place before the first
--   IsOrdered rows posts     the members of rows, in order, each place once
--   AreFrom v told k t posts       posts in the range of a source that pass a test; of a store that tells, those of a block
--   HasKeys v told first k t keys    numbers of posts in the range of a source that pass a test; of a store that tells, of a run of its
--                            blocks
use Rattle.std.specs.Prelude.{◌≡◌, ℕ, ◌+◌, ◌*◌, ◌/◌, ◌%◌, ◌<◌, ◌==◌, ◌||◌, Bool, true, List, [], ◌∷◌, length, map, filter, slice_index_or, Option}
use Rattle.std.specs.Prelude.{if◌then◌else◌}
use Rattle.std.specs.List.{All, Contains, list_any}
use Rattle.cs_base.specs.content.Orders.{AreSorted}
use Rattle.cs_base.specs.declared.content.doc.Post.{Post}
use Rattle.cs_base.specs.declared.content.limits.TheConstants.{MAX_DOCS}
use Rattle.cs_base.specs.declared.content.scores.Weights.{Weights}
use Rattle.cs_rows.specs.IndexReading.{IsWithin, WhereStood, run_of}
use Rattle.cs_rows.specs.Sources.{SourceView}
use Rattle.cs_rows.specs.declared.packing.TheConstants.{COLUMN_ROOM, POSITION_ROOM, WORD_ROOM}

-- ---- columns
-- a score that is no weight counts as a text's
abbrev pub column_of : Weights → ℕ → ℕ
column_of w score = if score == w.facet then 0 else (if score == w.title then 1 else 2)

-- of a facet, of a title, of a text
abbrev pub column_scores : Weights → List ℕ
column_scores w = w.facet ∷ w.title ∷ w.text ∷ []

-- 0 behind the last
abbrev pub score_of : Weights → ℕ → ℕ
score_of w column = slice_index_or (column_scores w) column 0

-- two may be equal
abbrev pub is_weight : Weights → ℕ → Bool
is_weight w score = score == w.facet || (score == w.title || score == w.text)

-- ---- numbers
-- the posts of an index file with these weights have room, whatever its numbers of documents and words
pub record IsPacked (w : Weights) (p : Post) : Type 0 where
  pub doc : p.doc < MAX_DOCS
  pub pos : p.pos < POSITION_ROOM
  pub word : p.word < WORD_ROOM
  pub score : is_weight w p.score ≡ true

-- of a packed post it has less than 64 bits
abbrev pub key_of : Weights → Post → ℕ
key_of w p = ((p.doc * POSITION_ROOM + p.pos) * WORD_ROOM + p.word) * COLUMN_ROOM + column_of w p.score

-- what two posts of one document, position and word share
abbrev pub place_of_key : ℕ → ℕ
place_of_key key = key / COLUMN_ROOM

-- every number has one
abbrev pub doc_of_key : ℕ → ℕ
doc_of_key key = place_of_key key / WORD_ROOM / POSITION_ROOM

-- every number has one
abbrev pub word_of_key : ℕ → ℕ
word_of_key key = place_of_key key % WORD_ROOM

-- every number has one
abbrev pub post_of_key : Weights → ℕ → Post
post_of_key w key = record {
  doc = doc_of_key key;
  word = word_of_key key;
  pos = place_of_key key / WORD_ROOM % POSITION_ROOM;
  score = score_of w (key % COLUMN_ROOM);
}

-- of ascending numbers the first of each place
abbrev pub apart : ℕ → List ℕ → List ℕ
apart last [] = []
apart last (k ∷ keys) = if place_of_key k == last then apart (place_of_key k) keys else k ∷ apart (place_of_key k) keys

-- where posts that share a place are the same, no member is lost
pub record IsOrdered (rows posts : List Post) : Type 0 where
  pub sorted : AreSorted posts
  pub among : All (Contains rows) posts
  pub alike : (all : List Post) → AreSorted all → All (Contains all) rows → (t : Post → Bool) → list_any t posts ≡ list_any t rows

-- none where no post of the block passes
pub record AreFrom (v : SourceView) (told : Option (List ℕ)) (k : ℕ) (t : Post → Bool) (posts : List Post) : Type 0 where
  pub packed : All (IsPacked v.index.weights) posts
  pub within : All (IsWithin v.docs (length v.words)) posts
  pub passed : All (λ p. t p ≡ true) posts
  pub read : WhereStood told v.index (λ b. posts ≡ filter t (slice_index_or (v.blocks b) k []))

-- none where first is k
pub record HasKeys (v : SourceView) (told : Option (List ℕ)) (first k : ℕ) (t : Post → Bool) (keys : List ℕ) : Type 0 where
  pub rows : List Post
  pub are : keys ≡ map (key_of v.index.weights) rows
  pub packed : All (IsPacked v.index.weights) rows
  pub within : All (IsWithin v.docs (length v.words)) rows
  pub passed : All (λ p. t p ≡ true) rows
  pub run : WhereStood told v.index (λ b. rows ≡ run_of (v.blocks b) first k t)
