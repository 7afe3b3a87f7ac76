-- The first reason of some that may stand, which is how everything here is refused: rules in their order, lines in theirs.
--
-- Source: none; plain lists of reasons.
--
--   unless b r        None where b holds, else the reason r
--   first_reason rs   the first reason of rs that is there; None where none is, as in the empty list
use Rattle.std.specs.Prelude.{Bool, if◌then◌else◌, List, [], ◌∷◌, Option, Some, None}

-- the reason of a rule that may be broken; None where the rule holds
abbrev pub unless : {R : Type 0} → Bool → R → Option R
unless b r = if b then None else Some r

-- the first reason that stands, from the left; of no reasons None
abbrev pub first_reason : {R : Type 0} → List (Option R) → Option R
first_reason [] = None
first_reason (None ∷ rs) = first_reason rs
first_reason (Some r ∷ rs) = Some r
