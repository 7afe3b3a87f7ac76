-- What came on one connection of a hub, and how often a count rose.
--
-- Source: this engine's own.
--
--   bytes_at c event bytes   the bytes that an event brings on connection c; none where it is of another one, or no piece
--   bytes_that_came c came    the bytes that came on it, in order; none where no piece did
--   ended_at c event         the event ends connection c
--   ended_on c came          one of the events did; none of no events
--   RoseBy n before now      a count of failures rose by at least n, or stands at its last value
--   sum_below n f            the sum of f over the numbers below n; 0 for 0
use Rattle.std.specs.Prelude.{ℕ, suc, ◌+◌, ◌-◌, ◌^◌, ◌≤◌, min, Bool, false, ◌||◌, ◌==◌, cond, List, [], ◌∷◌, ◌++◌}
use Prim.Native.Nat.{zero}
use Rattle.cs_base.specs.outside.Hub.{Came}
use Rattle.cs_base.specs.declared.outside.hub.Event.{Event}
use Rattle.cs_base.specs.declared.outside.hub.Event.TheVariants.{Opened, Piece, Ended, Over}

-- the bytes of an event that is a piece on this connection; any other event brings none
abbrev pub bytes_at : ℕ → Event → List ℕ → List ℕ
bytes_at c (Opened d) bytes = []
bytes_at c (Piece d n) bytes = cond (c == d) bytes []
bytes_at c (Ended d) bytes = []
bytes_at c Over bytes = []

-- the bytes of its pieces, one behind the other; of no events none
abbrev pub bytes_that_came : ℕ → List Came → List ℕ
bytes_that_came c [] = []
bytes_that_came c (e ∷ es) = bytes_at c e.event e.bytes ++ bytes_that_came c es

-- the event is the end of this connection, as Over isn't
abbrev pub ended_at : ℕ → Event → Bool
ended_at c (Opened d) = false
ended_at c (Piece d n) = false
ended_at c (Ended d) = c == d
ended_at c Over = false

-- the connection ended; it didn't where nothing came
abbrev pub ended_on : ℕ → List Came → Bool
ended_on c [] = false
ended_on c (e ∷ es) = ended_at c e.event || ended_on c es

-- the count is at least n greater than it was, or stands at the last value of u64; for 0 that it didn't fall
abbrev pub RoseBy : ℕ → ℕ → ℕ → Type 0
RoseBy n before now = min (before + n) (2 ^ 64 - 1) ≤ now

-- over the numbers from 0 on; for 0 it is 0
abbrev pub sum_below : ℕ → (ℕ → ℕ) → ℕ
sum_below zero f = 0
sum_below (suc n) f = sum_below n f + f n
