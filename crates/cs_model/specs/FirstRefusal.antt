-- The first refusal of a key text as a value: where the text is refused, and why.
--
-- Source: none of its own; Refusals says the same as a relation.
--
--   with_place cs k f   the fault f with the place of the character behind the first k
--   refusal_at cs k     the refusal of the character behind the first k, with its place; None where it isn't refused
--   first_refusal cs    the first refusal of the text; None exactly where it is accepted, as the empty text is
--   AcceptedHaveNone    the law that ties it to IsAccepted
--   RefusedHaveOne      the law that ties it to IsRefused
use Rattle.std.specs.Prelude.{◌≡◌, ◌↔◌, ℕ, ◌+◌, List, length, map, take, Option, Some, None}
use Rattle.std.specs.List.{range_with_len}
use Rattle.std.specs.Option.{option_map}
use Rattle.cs_model.specs.First.{first_reason}
use Rattle.cs_model.specs.Tokens.{tokens}
use Rattle.cs_model.specs.Refusals.{QueryRefusal, verdict, place_of, IsAccepted, IsRefused}

-- a fault with the place of the character behind the first k, which is 0 for the first character
abbrev pub with_place : List ℕ → ℕ → QueryRefusal → ℕ × QueryRefusal
with_place cs k f = (place_of cs k, f)

-- the refusal of the character behind the first k, with its place; None where it isn't refused
abbrev pub refusal_at : List ℕ → ℕ → Option (ℕ × QueryRefusal)
refusal_at cs k = option_map (with_place cs k) (verdict (tokens (take (k + 1) cs)))

-- the first refusal of a text's characters, from the left; None for the empty text
abbrev pub first_refusal : List ℕ → Option (ℕ × QueryRefusal)
first_refusal cs = first_reason (map (refusal_at cs) (range_with_len 0 (length cs)))

-- the accepted texts are those with no first refusal
abbrev pub AcceptedHaveNone : Type 0
AcceptedHaveNone = (cs : List ℕ) → IsAccepted cs ↔ (first_refusal cs ≡ None)

-- a text is refused at one place alone, that of its first refusal, and with that fault
abbrev pub RefusedHaveOne : Type 0
RefusedHaveOne = (cs : List ℕ) (at : ℕ) (f : QueryRefusal) → IsRefused cs at f ↔ (first_refusal cs ≡ Some (at, f))
