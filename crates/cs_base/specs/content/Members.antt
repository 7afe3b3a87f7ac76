-- A set listed in its order: every ordered answer of the product is one.
--
-- Source: none; plain lists and finite maps.
--
--   marked x          x as a member of a set: a key that holds nothing
--   members_in R xs   the members of xs, each once, in the order R; of no members it is []. Where R is total and ties only
--                     equals, repeats in xs and the order of xs don't matter
use Rattle.std.specs.Prelude.{List, map}
use Rattle.std.specs.declared.cmp.Ordering.{Ordering}
use Rattle.std.specs.FinMap as map

-- a member of a set: a key that holds nothing
abbrev pub marked : {X : Type 0} → X → X × Unit {0}
marked x = (x, tt)

-- the members of a list, each once, in the order R; of the empty list none
abbrev pub members_in : {X : Type 0} → (X → X → Ordering) → List X → List X
members_in R xs = map.keys (map.from_entries {R = R} (map marked xs))
