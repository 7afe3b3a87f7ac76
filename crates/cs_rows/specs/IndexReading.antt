-- What is read of an index: what always holds of it, and what it is where the store tells the index's own bytes.
--
-- Source: this engine's own.
--
--   division i                  the words of an index and its blocks, of which it is said how many may be read
--   BreaksIndex i told rule at  the first rule that the bytes of a block break, or rule 9 of the bytes of a title, with its place in the file
--   IsChangeIn i told e         the fault, if it is a change, tells such a rule and its place
--   by_post                     posts: document, position, number of the word, score, each ascending
--   stock_of b                  the titles, words and posts that are read of the bytes of an index file
--   WhereStood told i P         P holds of the bytes that a store tells, where the index i is what is kept of them
--   IsOpened told i             the index is one, and a store that tells has all its blocks
--   OnlyReads tells lends fails i old now r     what a call with this answer leaves of a store, and which change the answer may tell
--   IsWordRange i lo hi         there are words from number lo up to hi
--   IsWithin docs words p       the numbers of a post are in range
--   AreWithin i posts           posts in order, in the range of an index
--   HasRows s rows posts        posts of the stock that stand for these rows
--   run_of blocks first last t  the posts that pass a test in the blocks from number first up to last, one block behind the other
--   IsRangeOf ws test lo hi      the words that pass a test are those from lo up to hi, both within the vocabulary
use Rattle.std.specs.Prelude.{◌≡◌, ℕ, ◌-◌, ◌≤◌, ◌<◌, ◌⊎◌, Bool, List, length, take, drop, filter, flat_map, Option, Result}
use Rattle.std.specs.List.{All}
use Rattle.std.specs.Option.{ForSome}
use Rattle.std.specs.Ordering.{nat_cmp, then_cmp, on}
use Rattle.std.specs.declared.cmp.Ordering.{Ordering}
use Rattle.cs_base.specs.content.Members.{members_in}
use Rattle.cs_base.specs.content.Orders.{AreSorted, by_place}
use Rattle.cs_base.specs.declared.content.doc.Post.{Post}
use Rattle.cs_base.specs.declared.content.doc.Row.{Row}
use Rattle.cs_base.specs.declared.content.scores.TheConstants.{MAX_ROW_SCORE}
use Rattle.cs_file.specs.CallAnswers.{BreaksBlock, BreaksTitle, LeavesStore}
use Rattle.cs_file.specs.declared.fault.FetchFault.{FetchFault}
use Rattle.cs_file.specs.declared.fault.FetchFault.TheVariants as fetches
use Rattle.cs_file.specs.Indexes.{HasAllBlocks, IndexView, IsIndex, StandsFor}
use Rattle.cs_model.specs.Corpus.{by_number}
use Rattle.cs_model_index.specs.Images.{image_posts}
use Rattle.cs_model_index.specs.Sections.{image_of}
use Rattle.cs_model_index.specs.Numbered.{rows_at}
use Rattle.cs_model_kept.specs.Due.{Division}
use Rattle.cs_rows.specs.Stocked.{Stock, IsPicked, HoldsBetween}

-- an index without words has no block
abbrev pub division : IndexView → Division
division i = record { words = i.words; heads = i.heads }

-- of a block of the directory or of a title; of a store that tells, these are its bytes there
unfoldable pub BreaksIndex : IndexView → Option (List ℕ) → ℕ → ℕ → Type 0
BreaksIndex i told rule at =
    ((k : ℕ) × (k < length i.heads) × BreaksBlock i told k rule at) ⊎ ((d : ℕ) × (d < i.docs) × BreaksTitle i told d rule at)

-- of a failed read and of want of memory nothing is said
abbrev pub IsChangeIn : IndexView → Option (List ℕ) → FetchFault → Type 0
IsChangeIn i told (fetches.Changed rule at) = BreaksIndex i told rule at
IsChangeIn i told fetches.Read = Unit {0}
IsChangeIn i told fetches.Memory = Unit {0}

-- the score comes last, which the other three determine in an index
abbrev pub by_post : Post → Post → Ordering
by_post = then_cmp by_place (on (λ p. p.score) nat_cmp)

-- the posts of all blocks in one order; it counts only where the bytes are an index file
abbrev pub stock_of : List ℕ → Stock
stock_of b = record { titles = by_number (image_of b).titles; words = (image_of b).words; posts = members_in by_post (image_posts (image_of b)); bytes = b }

-- nothing is said of a store that tells nothing, and of one that tells other bytes
abbrev pub WhereStood : Option (List ℕ) → IndexView → (List ℕ → Type 0) → Type 0
WhereStood told i P = ForSome told (λ b. StandsFor b i → P b)

-- whatever store it was opened over
pub record IsOpened (told : Option (List ℕ)) (i : IndexView) : Type 0 where
  pub index : IsIndex i
  pub fits : HasAllBlocks told i

-- the change that the answer may tell is that of a block or of a title of the index
abbrev pub OnlyReads : {S L T : Type 0} → (S → Option (List ℕ)) → (S → L) → (S → ℕ) → IndexView → S → S → Result T FetchFault → Type 0
OnlyReads tells lends fails i old now r = LeavesStore tells lends fails i (IsChangeIn i (tells old)) old now r

-- none where lo is hi
pub record IsWordRange (i : IndexView) (lo hi : ℕ) : Type 0 where
  pub ordered : lo ≤ hi
  pub within : hi ≤ length i.words

-- below so many documents and words, and with a score that a row may have
pub record IsWithin (docs words : ℕ) (p : Post) : Type 0 where
  pub doc : p.doc < docs
  pub word : p.word < words
  pub score_from : 1 ≤ p.score
  pub score_to : p.score ≤ MAX_ROW_SCORE

-- whatever the store tells; so are no posts
pub record AreWithin (i : IndexView) (posts : List Post) : Type 0 where
  pub sorted : AreSorted posts
  pub within : All (IsWithin i.docs (length i.words)) posts

-- each post is one of the stock's; no posts stand for no rows
pub record HasRows (s : Stock) (rows : List Row) (posts : List Post) : Type 0 where
  pub is : rows_at s.words posts ≡ rows
  pub picked : IsPicked s posts

-- ---- runs of blocks
-- none where first is last
abbrev pub run_of : List (List Post) → ℕ → ℕ → (Post → Bool) → List Post
run_of blocks first last t = flat_map (filter t) (take (last - first) (drop first blocks))

-- where no word passes, lo is hi or more
pub record IsRangeOf (ws : List (List ℕ)) (test : List ℕ → Bool) (lo hi : ℕ) : Type 0 where
  pub ordered : lo ≤ hi
  pub within : hi ≤ length ws
  pub holds : HoldsBetween ws test lo hi
