-- Words that come one by one, some of them kept more than once.
--
--   HasTaken ws xs w     the words ws became xs when w was taken
--   gathered g           the words that came, in their order
--   AreWordSlots ns      there are slots, and not too many
--   IsGathering g        the words that are kept are those that came, and there are slots
use Rattle.std.specs.Prelude.{◌≡◌, ℕ, ◌+◌, ◌<◌, ◌≤◌, List, [], ◌∷◌, ◌++◌, length, map, slice_index_or}
use Rattle.std.specs.List.{All}
use Rattle.std.specs.Ordering.{nat_cmp}
use Rattle.std.specs.Cmp.Lexicographic.{slice_cmp}
use Rattle.cs_base.specs.content.Members.{members_in}
use Rattle.cs_vocab.specs.Ranges.{IsBelow}
use Rattle.cs_vocab.specs.declared.gathering.Gathering.{Gathering}
use Rattle.cs_vocab.specs.declared.gathering.TheConstants.{MAX_SLOTS}

-- whatever words are still to come, and also where w stood among the words already and nothing was added
pub record HasTaken (ws xs : List (List ℕ)) (w : List ℕ) : Type 0 where
  pub members : (rest : List (List ℕ)) → members_in (slice_cmp nat_cmp) (xs ++ rest) ≡ members_in (slice_cmp nat_cmp) (ws ++ w ∷ rest)
  pub kept : (k : ℕ) → k < length ws → slice_index_or xs k [] ≡ slice_index_or ws k []
  pub longer : length ws ≤ length xs
  pub few : length xs ≤ length ws + 1

-- each by its index; before any came none
abbrev pub gathered : Gathering → List (List ℕ)
gathered g = map (λ n. slice_index_or g.words.items n []) g.indices.items

-- whatever stands in them
abbrev pub AreWordSlots : List ℕ → Type 0
AreWordSlots ns = (1 ≤ length ns) × (length ns ≤ MAX_SLOTS)

-- so it is before any came, and behind each push
pub record IsGathering (g : Gathering) : Type 0 where
  pub members : members_in (slice_cmp nat_cmp) g.words.items ≡ members_in (slice_cmp nat_cmp) (gathered g)
  pub below : All (IsBelow (length g.words.items)) g.indices.items
  pub few : length g.words.items ≤ length g.indices.items
  pub slots : AreWordSlots g.slots.items
