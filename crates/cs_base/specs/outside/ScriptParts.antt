-- What a hub that plays a script keeps, as it is seen.
--
-- Source: this engine's own.
--
--   Connected          the connections that were opened: how many, which are live, what was sent on each, which are broken
--   connected_of xs, connected c    the connections of a list, each at its number; those that a hub keeps
--   bytes_on, adds, breaks_off, behind_event  what was sent on one, and what a send, a break and an event change
--   hub_of n x         the connections as a hub with room for n
--   HeadIs P es        P holds of the first event
--   is_over e          the event is Over
--   Fits room e        the bytes of a piece lie within the buffer
--   left_from s place  the events of a script from a place on
--   left_in s          those that are left
--   came_as h, came_in hs      an event that came; all of them
--   IsKept over left opened came      what such a hub keeps true
use Rattle.std.specs.Prelude.{◌≡◌, ℕ, suc, ◌+◌, ◌≤◌, ◌==◌, Bool, true, false, cond, List, [], ◌∷◌, ◌++◌, map, drop, length, Option, Some, None, All}
use Rattle.std.specs.Option.{option_map, unwrap_or}
use Rattle.std.specs.Ordering.{nat_cmp}
use Rattle.std.specs.FinMap as fin
use Rattle.std.specs.FinSet as set
use Rattle.cs_base.specs.outside.Hub.{Conns, Came, Listening, IsNotOf}
use Rattle.cs_base.specs.declared.outside.hub.Event.{Event}
use Rattle.cs_base.specs.declared.outside.hub.Event.TheVariants.{Opened, Piece, Ended, Over}
use Rattle.cs_base.specs.declared.outside.connections.Connection.{Connection}
use Rattle.cs_base.specs.declared.outside.connections.Connections.{Connections}
use Rattle.cs_base.specs.declared.outside.script.Script.{Script}
use Rattle.cs_base.specs.declared.outside.script.Scripted.{Scripted}
use Rattle.cs_base.specs.declared.outside.script.Scripted.TheVariants.{Opened as Opens, Piece as Gives, Ended as Ends}
use Rattle.cs_base.specs.declared.outside.script_hub.Heard.{Heard}

-- how many connections were opened, which of them are live, what was sent on each, and which are broken; none of it at first
pub record Connected : Type 0 where
  pub opened : ℕ
  pub live : Conns
  pub sent : fin.FinMap nat_cmp (List ℕ)
  pub broken : Conns

-- the places in a list at which it has true, counted from n; none of the empty list
abbrev pub places_from : ℕ → List Bool → Conns
places_from n [] = set.empty
places_from n (b ∷ bs) = cond b (set.insert (places_from (suc n) bs) n) (places_from (suc n) bs)

-- the map with an entry more, or as it was where there is none
abbrev pub with_entry : ℕ → Option (List ℕ) → fin.FinMap nat_cmp (List ℕ) → fin.FinMap nat_cmp (List ℕ)
with_entry n None m = m
with_entry n (Some bytes) m = fin.insert m n bytes

-- a list's values by their places, counted from n; no entry where there is none
abbrev pub values_from : ℕ → List (Option (List ℕ)) → fin.FinMap nat_cmp (List ℕ)
values_from n [] = fin.empty
values_from n (o ∷ os) = with_entry n o (values_from (suc n) os)

-- what was sent on a connection; None where there was no send
abbrev pub sent_of : Connection → Option (List ℕ)
sent_of x = option_map (λ v. v.items) x.sent

-- the connections of a list, the first of which has number 0
abbrev pub connected_of : List Connection → Connected
connected_of xs = record {
  opened = length xs;
  live = places_from 0 (map (λ x. x.live) xs);
  sent = values_from 0 (map sent_of xs);
  broken = places_from 0 (map (λ x. x.broken) xs);
}

-- the connections that a hub keeps; at first none
abbrev pub connected : Connections → Connected
connected c = connected_of c.list.items

-- what was sent on a connection; nothing where there was no send
abbrev pub bytes_on : Connected → ℕ → List ℕ
bytes_on x c = unwrap_or (fin.get x.sent c) []

-- bytes were added to what was sent on one, which may be none
abbrev pub adds : ℕ → List ℕ → Connected → Connected
adds c bytes x = record x { sent = fin.insert x.sent c (bytes_on x c ++ bytes) }

-- one is broken, and nothing more was sent on it
abbrev pub breaks_off : ℕ → Connected → Connected
breaks_off c x = record (adds c [] x) { broken = set.insert x.broken c }

-- what an event changes: the next number opens, or one isn't live any more
abbrev pub behind_event : Event → Connected → Connected
behind_event (Opened c) x = record x { opened = x.opened + 1; live = set.insert x.live x.opened }
behind_event (Piece c n) x = x
behind_event (Ended c) x = record x { live = set.remove x.live c }
behind_event Over x = x

-- the connections as a hub with room for so many, which isn't over
abbrev pub hub_of : ℕ → Connected → Listening
hub_of conns x = record { port = 0; conns = conns; opened = x.opened; live = x.live; over = false }

-- the first event of a list, if there is one
abbrev pub HeadIs : (Scripted → Type 0) → List Scripted → Type 0
HeadIs P [] = Unit {0}
HeadIs P (e ∷ events) = P e

-- nothing more comes
abbrev pub is_over : Event → Bool
is_over (Opened c) = false
is_over (Piece c n) = false
is_over (Ended c) = false
is_over Over = true

-- the bytes of a piece lie within the buffer
abbrev pub Fits : ℕ → Event → Type 0
Fits room (Opened c) = Unit {0}
Fits room (Piece c n) = n ≤ room
Fits room (Ended c) = Unit {0}
Fits room Over = Unit {0}

-- a list of events with the first bytes of its first piece taken off; all of the list where it doesn't begin with a piece
abbrev pub without_given : ℕ → List Scripted → List Scripted
without_given n [] = []
without_given n (Opens ∷ events) = Opens ∷ events
without_given n (Gives c bytes ∷ events) = Gives c (drop n bytes) ∷ events
without_given n (Ends c ∷ events) = Ends c ∷ events

-- how many bytes of the event at a place were given; none where it isn't the first that is left
abbrev pub given_at : Script → ℕ → ℕ
given_at s place = cond (place == s.place) s.given 0

-- the events from a place on, without the bytes that were given
abbrev pub left_from : Script → ℕ → List Scripted
left_from s place = without_given (given_at s place) (drop place s.events.items)

-- the events that are left
abbrev pub left_in : Script → List Scripted
left_in s = without_given s.given (drop s.place s.events.items)

-- an event that came, with the bytes of a piece
abbrev pub came_as : Heard → Came
came_as h = record { event = h.event; bytes = h.bytes.items }

-- the events that came
abbrev pub came_in : List Heard → List Came
came_in hs = map came_as hs

-- what such a hub keeps true: behind Over nothing is left, and what came is of connections that were opened
pub record IsKept (over : Bool) (left : List Scripted) (opened : ℕ) (came : List Heard) : Type 0 where
  pub done : over ≡ true → left ≡ []
  pub fresh : (c : ℕ) → opened ≤ c → All (λ h. IsNotOf c h.event) came
