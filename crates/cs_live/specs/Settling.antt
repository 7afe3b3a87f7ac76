-- Rows of added documents brought into a state.
--
-- Source: this engine's own, over `Vocabularies` of cs_merge.
--
--   words_met words rows    words, and those of rows, each once
--   HaveWordSize rows       the word of each has as many bytes as a word may have
--   row_posts second ns rows    the posts of rows whose words have the numbers ns, which stand for others
--   AreMergedWith words rows m      words, and those of rows, in one order
--   AreSettled words shift by_word rows m new     what a state has in place of words, numbers and posts, with rows brought in
use Rattle.std.specs.Prelude.{◌≡◌, ℕ, List, [], ◌∷◌, ◌++◌, map, slice_index_or}
use Rattle.std.specs.List.{AllByRecursion}
use Rattle.std.specs.List.Sorted.{IsStrictlySortedBy}
use Rattle.std.specs.Ordering.{nat_cmp}
use Rattle.std.specs.Cmp.Lexicographic.{slice_cmp}
use Rattle.cs_base.specs.content.Members.{members_in}
use Rattle.cs_base.specs.declared.content.doc.Post.{Post}
use Rattle.cs_base.specs.declared.content.doc.Row.{Row}
use Rattle.cs_merge.specs.Vocabularies.{AreOfWordSize, IsShift}
use Rattle.cs_merge.specs.declared.vocabulary.Merging.{Merging}
use Rattle.cs_model_index.specs.Numbered.{HasWord, numbered}
use Rattle.cs_live.specs.States.{AreByWord, renumbered}
use Rattle.cs_live.specs.declared.settling.Settled.{Settled}

-- by bytes; of no rows the words themselves, where they ascend
abbrev pub words_met : List (List ℕ) → List Row → List (List ℕ)
words_met words rows = members_in (slice_cmp nat_cmp) (words ++ map (λ r. r.word) rows)

-- of no rows it holds
abbrev pub HaveWordSize : List Row → Type 0
HaveWordSize rows = AreOfWordSize (map (λ r. r.word) rows)

-- as many as both have
abbrev pub row_posts : List ℕ → List ℕ → List Row → List Post
row_posts second [] rows = []
row_posts second (n ∷ ns) [] = []
row_posts second (n ∷ ns) (r ∷ rows) = record { doc = r.doc; word = slice_index_or second n 0; pos = r.pos; score = r.score } ∷ row_posts second ns rows

-- of no rows the words themselves
pub record AreMergedWith (words : List (List ℕ)) (rows : List Row) (m : Merging) : Type 0 where
  pub all : m.words.items ≡ words_met words rows
  pub rises : IsStrictlySortedBy (slice_cmp nat_cmp) m.words.items

-- the numbers of the words before among those behind are `first`; all posts stay, and the rows come behind them in order of place, whatever
-- posts these are by their words; of no rows nothing changes but memory
pub record AreSettled (words : List (List ℕ)) (shift : List ℕ) (by_word : List Post) (rows : List Row) (m : Settled) (new : List Post) : Type 0 where
  pub first : List ℕ
  pub is : IsShift words m.words first
  pub all : m.words ≡ words_met words rows
  pub known : AllByRecursion (HasWord m.words) rows
  pub numbers : m.shift.items ≡ map (λ n. slice_index_or first n 0) shift
  pub posts : (held : List Post) → AreByWord held by_word → AreByWord (map (renumbered first) held ++ numbered m.words rows) new
