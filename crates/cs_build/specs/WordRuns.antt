-- Runs of words by their numbers, and the blocks that they are given.
--
-- Source: this engine's own. How words are parted into runs stands in `Partitions` of `cs_model_index`.
--
--   AreCounts words numbers counts      how often each number below `words` stands among numbers
--   AreCountsBy ws counts count     the counts are those of the words of a vocabulary
--   runs_from count lo parts   runs of words that lie one behind the other, the first from word number lo on
--   AreParted target ws count runs     these runs are the partition of the words
--   has_word run n             word number n is one of the run's
--   AreSpans lo runs end       runs lie one behind the other from word number lo up to `end`, which is left out
--   run_places_from k runs         for each word the index of its run, the first run having the index k
--   is_within run p            the post's word is one of the run's
--   CountsRows posts run       the run has as many rows as there are posts of its words
--   AreFilled posts runs blocks      each block has those of these posts that have a word of its run, and room for its other rows
--   IsPushed old i post new      the post was added at the end of block number i
--   CanTake places blocks posts      blocks of runs, where `places` says for each word the index of its run, have room for these posts
--   AreTaken places posts old new    each of these posts was added to the block of its word's run
--   run_head ws p              what the directory says of a run and its posts
use Rattle.std.specs.Prelude.{◌≡◌, ℕ, ◌+◌, ◌≤◌, ◌<◌, ◌&&◌, ◌==◌, Bool, nat_le, nat_lt, List, [], ◌∷◌, ◌++◌, length, filter, replicate, slice_index_or, slice_set}
use Rattle.std.specs.List.{AllByRecursion, count_by}
use Rattle.cs_base.specs.declared.index.block.BlockHead.{BlockHead}
use Rattle.cs_base.specs.declared.content.doc.Post.{Post}
use Rattle.cs_cols.specs.declared.cols.Cols.{Cols}
use Rattle.cs_model_index.specs.BlockBounds.{greatest_of, least_of}
use Rattle.cs_model_index.specs.Blocks.{block_bytes}
use Rattle.cs_model_index.specs.Numbered.{word_at}
use Rattle.cs_model_index.specs.Partitions.{Count, is_facet, rows_of_run, IsPartition}
use Rattle.cs_build.specs.declared.parting.Run.{Run}

-- ---- how many rows a word has
-- each number counts, 0 where it doesn't stand there; of no words there are no counts
pub record AreCounts (words : ℕ) (numbers counts : List ℕ) : Type 0 where
  pub each : length counts ≡ words
  pub at : (n : ℕ) → n < words → slice_index_or counts n 0 ≡ count_by (λ m. m == n) numbers

-- word by word; nothing is said of other words
abbrev pub AreCountsBy : List (List ℕ) → List ℕ → Count → Type 0
AreCountsBy ws counts count = (n : ℕ) → n < length ws → slice_index_or counts n 0 ≡ count (word_at ws n)

-- ---- runs
-- of no runs none
abbrev pub runs_from : Count → ℕ → List (List (List ℕ)) → List Run
runs_from count lo [] = []
runs_from count lo (part ∷ parts) = record { lo = lo; words = length part; rows = rows_of_run count part } ∷ runs_from count (lo + length part) parts

-- of no words there are no runs
pub record AreParted (target : ℕ) (ws : List (List ℕ)) (count : Count) (runs : List Run) : Type 0 where
  pub parts : List (List (List ℕ))
  pub partition : IsPartition target count ws parts
  pub are : runs ≡ runs_from count 0 parts

-- a run without words has none
abbrev pub has_word : Run → ℕ → Bool
has_word run n = nat_le run.lo n && nat_lt n (run.lo + run.words)

-- of no runs lo is the end
abbrev pub AreSpans : ℕ → List Run → ℕ → Type 0
AreSpans lo [] end = lo ≡ end
AreSpans lo (run ∷ runs) end = (run.lo ≡ lo) × AreSpans (lo + run.words) runs end

-- of no runs none
abbrev pub run_places_from : ℕ → List Run → List ℕ
run_places_from k [] = []
run_places_from k (run ∷ runs) = replicate run.words k ++ run_places_from (k + 1) runs

-- ---- blocks
-- its word's number is one of the run's
abbrev pub is_within : Run → Post → Bool
is_within run p = has_word run p.word

-- of no posts 0
abbrev pub CountsRows : List Post → Run → Type 0
CountsRows posts run = run.rows ≡ length (filter (is_within run) posts)

-- there are as many blocks as runs, each of them with the posts of its run and room for as many rows as the run has
abbrev pub AreFilled : List Post → List Run → List Cols → Type 0
AreFilled posts [] [] = Unit {0}
AreFilled posts (run ∷ runs) (b ∷ blocks) = (b.posts ≡ filter (is_within run) posts) × (run.rows ≤ b.room + length b.posts) × AreFilled posts runs blocks
AreFilled posts _ _ = ⊥

-- the post went to the end of one block, in the room that it had
pub record IsPushed (old : List Cols) (i : ℕ) (post : Post) (new : List Cols) : Type 0 where
  pub block : Cols
  pub set : new ≡ slice_set old i block
  pub posts : block.posts ≡ (slice_index_or old i block).posts ++ post ∷ []
  pub room : (slice_index_or old i block).room ≤ block.room + 1

-- they are such blocks with the posts that came before, and more may come behind
pub record CanTake (places : List ℕ) (blocks : List Cols) (posts : List Post) : Type 0 where
  pub runs : List Run
  pub words : ℕ
  pub spans : AreSpans 0 runs words
  pub placed : places ≡ run_places_from 0 runs
  pub below : AllByRecursion (λ p. p.word < words) posts
  pub before : List Post
  pub behind : List Post
  pub filled : AreFilled before runs blocks
  pub counted : AllByRecursion (CountsRows (before ++ (posts ++ behind))) runs

-- whatever posts came before; where there are no posts, the blocks are as they were
abbrev pub AreTaken : List ℕ → List Post → List Cols → List Cols → Type 0
AreTaken places posts old new = (runs : List Run) (words : ℕ) (before : List Post) → AreSpans 0 runs words → places ≡ run_places_from 0 runs → AllByRecursion (λ p. p.word < words) posts → AreFilled before runs old → AreFilled (before ++ posts) runs new

-- of a run without posts it has no bytes, and the bounds 0 and 0
abbrev pub run_head : List (List ℕ) → Run × List Post → BlockHead
run_head ws p = record { lo = p.0.lo; words = p.0.words; rows = p.0.rows; len = length (block_bytes p.1 p.0.lo); facet = is_facet (word_at ws p.0.lo); least = least_of p.1; greatest = greatest_of p.1 }
