-- The slots in which kept entries lie, the one used last in front, each with an entry and its key or empty.
--
-- Source: this engine's own, over the crate `lru`, which never refuses to write over a slot that it has.
--
--   Slot                 a slot's number with what it holds
--   entries_in slots     the entries that the slots hold, with their keys, in order
--   has_key key o        a slot that holds o holds the entry of this key
--   IsEmptyLast slots    no slot behind an empty one holds an entry
--   AreSlots slots n     there are n slots, the empty ones last, and no two hold one key
--   IsSlotOf key slots n       the slot with the number n holds the first entry of this key
--   IsLastEmptied slots new    the last slot is emptied, and comes first
use Rattle.std.specs.Prelude.{◌≡◌, ℕ, ◌-◌, Bool, true, false, List, [], ◌∷◌, ◌++◌, length, map, take, Option, Some, None, MatchOption, ⊤}
use Rattle.std.specs.List.{IsDistinct, filter_map}
use Rattle.std.specs.Str.{bytes_eq}
use Rattle.cs_base.specs.declared.content.doc.Post.{Post}
use Rattle.cs_model_kept.specs.Entries.{EntryOf}
use Rattle.cs_model_kept.specs.KeptList.{KeptOf, found}

-- a slot's number, and an entry with its key, or None for an empty slot
abbrev pub Slot : Type 0
Slot = ℕ × Option (List ℕ × EntryOf Post)

-- the entries that the slots hold, with their keys, in the order of the slots; of empty slots none
abbrev pub entries_in : List Slot → KeptOf (EntryOf Post)
entries_in slots = filter_map (λ s. s.1) slots

-- the slot holds the entry of this key; an empty one doesn't
abbrev pub has_key : List ℕ → Option (List ℕ × EntryOf Post) → Bool
has_key key None = false
has_key key (Some e) = bytes_eq e.0 key

-- no slot behind an empty one holds an entry; of no slots it holds
abbrev pub IsEmptyLast : List Slot → Type 0
IsEmptyLast [] = ⊤
IsEmptyLast (s ∷ slots) = MatchOption s.1 (entries_in slots ≡ []) (λ _. IsEmptyLast slots)

-- there are n slots, the empty ones last, and no two hold one key
pub record AreSlots (slots : List Slot) (n : ℕ) : Type 0 where
  pub empty_last : IsEmptyLast slots
  pub count : length slots ≡ n
  pub different : IsDistinct bytes_eq (map (λ e. e.0) (entries_in slots))

-- the slots are those in front of one with the number n, that one, which holds the first entry of this key, and those behind it
abbrev pub IsSlotOf : List ℕ → List Slot → ℕ → Type 0
IsSlotOf key slots n =
    (front : List Slot) × (e : List ℕ × EntryOf Post) × (back : List Slot) × (slots ≡ front ++ (n, Some e) ∷ back)
    × (found (entries_in front) key ≡ None) × (bytes_eq e.0 key ≡ true)

-- the others stay in their order; there is one
abbrev pub IsLastEmptied : List Slot → List Slot → Type 0
IsLastEmptied slots new = (n : ℕ) × (new ≡ (n, None) ∷ take (length slots - 1) slots)
