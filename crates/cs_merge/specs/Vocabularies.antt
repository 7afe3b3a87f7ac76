-- Two vocabularies brought into one.
--
-- Source: this engine's own.
--
--   AreOfWordSize ws       each word has as many bytes as a word may have
--   nth_word ws n          word n; past the last word the empty text
--   IsShift ws us shift    the numbers of the words of ws among us
--   AreMerged a b m        the words of both, each once, and their numbers for the words of each
--   Side a ws ns           the first words of a have the numbers ns among ws, and all of ws are below the next word of a
--   IsMerging a b m        words of both were taken, the least ones first
--   is_done a b m          all were taken
--   IsMore old new         one was taken more
--   IsTurn a b i j turn    which of word i of a and word j of b comes next: Less for the first, Greater for the second, Equal for both
--   is_first turn, is_second turn    it is one of the first, one of the second
--   turn_word a b i j turn the word that comes next
--   own_numbers holds n    the number, if it holds
use Rattle.std.specs.Prelude.{◌≡◌, ℕ, ◌+◌, ◌≤◌, ◌<◌, ◌&&◌, ◌||◌, Bool, true, false, nat_le, List, [], ◌∷◌, ◌++◌, length, take, slice_index_or, if◌then◌else◌}
use Rattle.std.specs.List.{All, list_any}
use Rattle.std.specs.List.Sorted.{IsStrictlySortedBy}
use Rattle.std.specs.Ordering.{eq_by_cmp, nat_cmp}
use Rattle.std.specs.Cmp.Lexicographic.{slice_cmp}
use Rattle.std.specs.declared.cmp.Ordering.{Ordering}
use Rattle.std.specs.declared.cmp.Ordering.TheVariants.{Less, Equal, Greater}
use Rattle.cs_base.specs.content.Members.{members_in}
use Rattle.cs_base.specs.content.Orders.{AreDocs}
use Rattle.cs_base.specs.declared.content.limits.TheConstants.{MAX_WORD_BYTES}
use Rattle.cs_merge.specs.declared.vocabulary.Merging.{Merging}

-- from 1 to MAX_WORD_BYTES
abbrev pub AreOfWordSize : List (List ℕ) → Type 0
AreOfWordSize ws = All (λ w. (1 ≤ length w) × (length w ≤ MAX_WORD_BYTES)) ws

-- the first word has the number 0
abbrev pub nth_word : List (List ℕ) → ℕ → List ℕ
nth_word ws n = slice_index_or ws n []

-- as many numbers as words, ascending, each that of its word; of no words there are none
pub record IsShift (ws us : List (List ℕ)) (shift : List ℕ) : Type 0 where
  pub long : length shift ≡ length ws
  pub rises : AreDocs shift
  pub below : All (λ n. n < length us) shift
  pub same : (n : ℕ) → n < length ws → nth_word us (slice_index_or shift n 0) ≡ nth_word ws n

-- each word once, by bytes, with its number for each vocabulary that has it; of two vocabularies without words there are none
pub record AreMerged (a b : List (List ℕ)) (m : Merging) : Type 0 where
  pub words : m.words.items ≡ members_in (slice_cmp nat_cmp) (a ++ b)
  pub rises : IsStrictlySortedBy (slice_cmp nat_cmp) m.words.items
  pub first : IsShift a m.words.items m.first.items
  pub second : IsShift b m.words.items m.second.items

-- as many words of a were taken as there are numbers, none before the first
pub record Side (a ws : List (List ℕ)) (ns : List ℕ) : Type 0 where
  pub upto : length ns ≤ length a
  pub below : (k : ℕ) → length ns ≤ k → k < length a → All (λ w. slice_cmp nat_cmp w (nth_word a k) ≡ Less) ws
  pub same : (n : ℕ) → n < length ns → nth_word ws (slice_index_or ns n 0) ≡ nth_word a n
  pub small : All (λ n. n < length ws) ns
  pub rises : AreDocs ns

-- what was taken are the first words of both; so it is before the first word, and behind the last
pub record IsMerging (a b : List (List ℕ)) (m : Merging) : Type 0 where
  pub first : Side a m.words.items m.first.items
  pub second : Side b m.words.items m.second.items
  pub sorted : IsStrictlySortedBy (slice_cmp nat_cmp) m.words.items
  pub members : (q : List ℕ) → list_any (eq_by_cmp (slice_cmp nat_cmp) q) m.words.items
      ≡ (list_any (eq_by_cmp (slice_cmp nat_cmp) q) (take (length m.first.items) a) || list_any (eq_by_cmp (slice_cmp nat_cmp) q) (take (length m.second.items) b))
  pub few : length m.words.items ≤ length m.first.items + length m.second.items

-- each word of both has its number; of two vocabularies without words so it is from the start
abbrev pub is_done : List (List ℕ) → List (List ℕ) → Merging → Bool
is_done a b m = nat_le (length a) (length m.first.items) && nat_le (length b) (length m.second.items)

-- one word more has its number, or one of each vocabulary where they are the same
abbrev pub IsMore : Merging → Merging → Type 0
IsMore old new = length old.first.items + length old.second.items < length new.first.items + length new.second.items

-- the lesser word comes first; where one vocabulary has no word left, it is the other one's turn
abbrev pub IsTurn : List (List ℕ) → List (List ℕ) → ℕ → ℕ → Ordering → Type 0
IsTurn a b i j Less = (i < length a) × (j < length b → slice_cmp nat_cmp (nth_word a i) (nth_word b j) ≡ Less)
IsTurn a b i j Greater = (j < length b) × (i < length a → slice_cmp nat_cmp (nth_word b j) (nth_word a i) ≡ Less)
IsTurn a b i j Equal = (i < length a) × (j < length b) × (nth_word a i ≡ nth_word b j)

-- also where both have the word
abbrev pub is_first : Ordering → Bool
is_first Greater = false
is_first _ = true

-- also where both have the word
abbrev pub is_second : Ordering → Bool
is_second Less = false
is_second _ = true

-- that of the first where both have the word
abbrev pub turn_word : List (List ℕ) → List (List ℕ) → ℕ → ℕ → Ordering → List ℕ
turn_word a b i j Greater = nth_word b j
turn_word a b i j Less = nth_word a i
turn_word a b i j Equal = nth_word a i

-- none where it doesn't hold
abbrev pub own_numbers : Bool → ℕ → List ℕ
own_numbers holds n = if holds then n ∷ [] else []
