-- Words in order, known by their numbers from 0.
--
--   IsVocab ws             words that strictly ascend by bytes, few enough that numbers of 32 bits serve
--   IsBelow n k            k is below n
--   IsWordAt ws n w        word n is w
--   AreNumbers ws ns all   the numbers of the words `all`, in their order
--   IsSplitBefore ws p n   the words that stand before p are the first n
--   IsRange ws p lo hi     the words that begin with p are those from number lo up to hi, hi left out
use Rattle.std.specs.Prelude.{◌≡◌, ℕ, ◌<◌, ◌≤◌, ◌&&◌, nat_le, nat_lt, true, false, List, [], length, map, slice_index_or}
use Rattle.std.specs.List.{All}
use Rattle.std.specs.List.Sorted.{IsStrictlySortedBy, IsPartitionPoint}
use Rattle.std.specs.Ordering.{nat_cmp, is_lt}
use Rattle.std.specs.Cmp.Lexicographic.{slice_cmp}
use Rattle.cs_base.specs.declared.content.limits.TheConstants.{MAX_ROWS}
use Rattle.cs_model.specs.Answers.{begins}

-- no word stands twice
abbrev pub IsVocab : List (List ℕ) → Type 0
IsVocab ws = IsStrictlySortedBy (slice_cmp nat_cmp) ws × (length ws ≤ MAX_ROWS)

-- as a test of numbers
abbrev pub IsBelow : ℕ → ℕ → Type 0
IsBelow n k = k < n

-- only where there are more than n words
abbrev pub IsWordAt : List (List ℕ) → ℕ → List ℕ → Type 0
IsWordAt ws n w = (n < length ws) × (slice_index_or ws n [] ≡ w)

-- as many numbers as words, each of a word that is there
pub record AreNumbers (ws : List (List ℕ)) (ns : List ℕ) (all : List (List ℕ)) : Type 0 where
  pub told : map (λ n. slice_index_or ws n []) ns ≡ all
  pub below : All (IsBelow (length ws)) ns

-- all words where each stands before p
abbrev pub IsSplitBefore : List (List ℕ) → List ℕ → ℕ → Type 0
IsSplitBefore ws p n = IsPartitionPoint (λ w. is_lt (slice_cmp nat_cmp w p) ≡ true) (λ w. is_lt (slice_cmp nat_cmp w p) ≡ false) ws n

-- where no word begins with p, lo is hi
pub record IsRange (ws : List (List ℕ)) (p : List ℕ) (lo hi : ℕ) : Type 0 where
  pub ordered : lo ≤ hi
  pub within : hi ≤ length ws
  pub holds : (n : ℕ) → n < length ws → begins p (slice_index_or ws n []) ≡ (nat_le lo n && nat_lt n hi)
