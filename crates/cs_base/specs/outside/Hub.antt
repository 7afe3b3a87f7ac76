-- Connections, as a hub tells them. One event is one step: a connection opens, a piece of bytes comes on one, or one ends.
--
-- Source: this engine's own. Connections are numbered from 0.
--
--   Conns                a finite set of connections
--   Listening            what every hub tells: port, room for connections, how many were opened, which are live, whether Over
--                        came
--   Came                 an event that came, with the bytes of a piece
--   Talk                 what a hub may tell: the events that came, what was sent on each connection, which are broken
--   IsLive s c           the connection is live
--   sent_on t c          the bytes sent on a connection; none where nothing was sent
--   listens port conns   as `listen` leaves it
--   silent               nothing came, nothing was sent, none is broken
--   Happens s size e t   event e may come next into a buffer of so many bytes, and t stands after it; a piece has at least
--                        one byte
--   came_of e buffer     the event e with the bytes that the buffer holds of it
--   hears e t            what an event adds to the talk
--   sends c b t          what a send adds to it
--   breaks c t           what a failed send adds to it
--   IsNotOf c e          the event e isn't of connection c; Over is of none
--   IsOrderly s talk     a live connection was opened; on one that wasn't, nothing came and nothing was sent, and it isn't
--                        broken
use Rattle.std.specs.Prelude.{◌≡◌, ℕ, ◌+◌, ◌<◌, ◌≤◌, ◌≢◌, Bool, true, false, List, [], ◌∷◌, ◌++◌, take, All, Option}
use Rattle.std.specs.Option.{unwrap_or, ForSome}
use Rattle.std.specs.Ordering.{nat_cmp}
use Rattle.std.specs.FinMap as map
use Rattle.std.specs.FinSet as set
use Rattle.cs_base.specs.declared.outside.hub.Event.{Event}
use Rattle.cs_base.specs.declared.outside.hub.Event.TheVariants.{Opened, Piece, Ended, Over}

-- a finite set of connections, by their numbers
abbrev pub Conns : Type 0
Conns = set.FinSet nat_cmp

-- what every hub tells, whether or not it tells its talk
pub record Listening : Type 0 where
  pub port : ℕ
  pub conns : ℕ
  pub opened : ℕ
  pub live : Conns
  pub over : Bool

-- an event that came, with the bytes of a piece and no bytes otherwise
pub record Came : Type 0 where
  pub event : Event
  pub bytes : List ℕ

-- what is told whole or not at all: the events in order, what was sent by connection, the broken ones
pub record Talk : Type 0 where
  pub came : List Came
  pub sent : map.FinMap nat_cmp (List ℕ)
  pub broken : Conns

-- the connection was opened, and neither ended nor was closed
abbrev pub IsLive : Listening → ℕ → Type 0
IsLive s c = set.contains s.live c ≡ true

-- what was sent on a connection; nothing where it is told of no send
abbrev pub sent_on : Talk → ℕ → List ℕ
sent_on t c = unwrap_or (map.get t.sent c) []

-- a hub that begins to listen: nothing opened, no connection live, not over
abbrev pub listens : ℕ → ℕ → Listening
listens port conns = record { port = port; conns = conns; opened = 0; live = set.empty; over = false }

-- a talk of nothing: nothing came, nothing was sent, none is broken
abbrev pub silent : Talk
silent = record { came = []; sent = map.empty; broken = set.empty }

-- the event may come next, connections opening in the order of their numbers, and t stands behind it; behind Over only Over
-- comes
abbrev pub Happens : Listening → ℕ → Event → Listening → Type 0
Happens s size (Opened c) t = (s.over ≡ false) × (c ≡ s.opened) × (c < s.conns) × (t ≡ record s { opened = s.opened + 1; live = set.insert s.live c })
Happens s size (Piece c n) t = (s.over ≡ false) × IsLive s c × (0 < n) × (n ≤ size) × (t ≡ s)
Happens s size (Ended c) t = (s.over ≡ false) × IsLive s c × (t ≡ record s { live = set.remove s.live c })
Happens s size Over t = t ≡ record s { over = true }

-- an event with the bytes that the buffer holds of it; only a piece has any
abbrev pub came_of : Event → List ℕ → Came
came_of (Piece c n) buffer = record { event = Piece c n; bytes = take n buffer }
came_of event buffer = record { event = event; bytes = [] }

-- the talk with an event more, which came last
abbrev pub hears : Came → Talk → Talk
hears e t = record t { came = t.came ++ e ∷ [] }

-- the talk with bytes added to what was sent on one connection, which may be none
abbrev pub sends : ℕ → List ℕ → Talk → Talk
sends c b t = record t { sent = map.insert t.sent c (sent_on t c ++ b) }

-- the talk with one connection broken, which it may have been before
abbrev pub breaks : ℕ → Talk → Talk
breaks c t = record t { broken = set.insert t.broken c }

-- the event isn't of connection c, as Over is of none
abbrev pub IsNotOf : ℕ → Event → Type 0
IsNotOf c (Opened d) = d ≢ c
IsNotOf c (Piece d n) = d ≢ c
IsNotOf c (Ended d) = d ≢ c
IsNotOf c Over = Unit {0}

-- what holds of every hub after each of its calls; of one that doesn't tell its talk, only that live connections were opened
pub record IsOrderly (s : Listening) (talk : Option Talk) : Type 0 where
  pub live : (c : ℕ) → IsLive s c → c < s.opened
  pub fresh : ForSome talk (λ t. (c : ℕ) → s.opened ≤ c → All (λ e. IsNotOf c e.event) t.came × (sent_on t c ≡ []) × (set.contains t.broken c ≡ false))
