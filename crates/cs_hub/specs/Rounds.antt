-- What the slots of the core hold, what one event does to them, and what of all connections is still to come.
--
--   to_come x, weight core           how many bytes may still come on it, and one for its end; over all that are kept
--   IsAdded core c l core'            this is kept of connection c, which may stand behind the last slot
--   Acted                            a connection is kept so, or no more; the others are as they were
--   closed_unless kept c s           the hub's state after a connection was kept or closed
--   OnlyCloses                       what closing keeps of a hub
--   Greets                           a connection that opened is kept, or was told want of memory and closed
--   Heeds                            a piece came
--   Lightens e core core'            what an event adds to the weight at most, and what it takes away at least
--   KeepsCame talk talk'             no event came
--   TakesStep                            what an event does over every hub
--   TakesPiece l piece l'            what a piece leaves of a connection that goes on
--   ActsOn                           what an event does on its own connection; Over sends nothing on any
--   HasBytes, OpensBelow             what an event of a hub keeps: its piece fits the buffer, a number is below the room
--   GoesOnAfter e opened r           how the loop goes on after an event, by how many connections were opened
--   still conns opened core          what is left to come over all connections
--   came_by talk                     how many events came
--   Went                             how a round went
--   StaysServed                      what is served by a round
--   StaysBeside                      how a round leaves the core beside the hub
use Rattle.std.specs.Prelude.{◌≡◌, ◌⊎◌, ℕ, ◌+◌, ◌-◌, ◌*◌, ◌<◌, ◌≤◌, Bool, true, false, ◌==◌, cond, List, [], ◌++◌, length, take, Option, Some, None, is_some, replicate, slice_set}
use Rattle.std.specs.List.{sum_by}
use Rattle.std.specs.Option.{option_map}
use Rattle.std.specs.FinSet as set
use Rattle.cs_base.specs.declared.content.limits.TheConstants.{MAX_CONNECTION_BYTES}
use Rattle.cs_base.specs.declared.outside.hub.Event.{Event}
use Rattle.cs_base.specs.declared.outside.hub.Event.TheVariants.{Opened, Piece, Ended, Over}
use Rattle.cs_base.specs.outside.Causes.{Rose}
use Rattle.cs_base.specs.outside.Hub.{IsOrderly, Listening, Talk, came_of, hears}
use Rattle.cs_model.specs.Corpus.{Corpus}
use Rattle.cs_model_serving.specs.Connections.{Left}
use Rattle.cs_hub.specs.declared.rounds.Round.{Round}
use Rattle.cs_hub.specs.declared.rounds.Round.TheVariants as round
use Rattle.cs_hub.specs.DueReads.{IsRest}
use Rattle.cs_hub.specs.Streams.{RoseBy}
use Rattle.cs_hub.specs.HubFollowing.{Follows, HasLive, LeavesOthers, Lefts, left_at}
use Rattle.cs_hub.specs.Speaking.{BreaksBy, Starved}
use Rattle.cs_hub.specs.Turns.{Received}

-- ---- slots
-- the bytes up to the limit, and the end of the connection; none for an empty slot
abbrev pub to_come : Option Left → ℕ
to_come None = 0
to_come (Some l) = (MAX_CONNECTION_BYTES - l.taken) + 1

-- 0 where no connection is kept
abbrev pub weight : Lefts → ℕ
weight core = sum_by to_come core

-- ---- one event
-- this is kept of the connection, behind as many empty slots as bring it within
abbrev pub IsAdded : Lefts → ℕ → Left → Lefts → Type 0
IsAdded core c l core' = (n : ℕ) × (core' ≡ slice_set (core ++ replicate n None) c (Some l)) × (c < length (core ++ replicate n None))

-- this is kept of connection c, None where nothing is, and it is live where something is; the others are as they were
pub record Acted (core core' : Lefts) (c : ℕ) (x : Option Left) (s s' : Listening) : Type 0 where
  pub sets : (d : ℕ) → left_at core' d ≡ cond (d == c) x (left_at core d)
  pub live : (d : ℕ) → set.contains s'.live d ≡ cond (d == c) (is_some x) (set.contains s.live d)
  pub same : s' ≡ record s { live = s'.live }

-- it stays where the connection is kept
abbrev pub closed_unless : Bool → ℕ → Listening → Listening
closed_unless true c s = s
closed_unless false c s = record s { live = set.remove s.live c }

-- nothing comes and nothing is sent, both counts stay, and what holds after each call of a hub does
pub record OnlyCloses {H : Type 0} (stands : H → Listening) (tells : H → Option Talk) (fails send_fails : H → ℕ) (old now : H) : Type 0 where
  pub talk : tells now ≡ tells old
  pub faults : fails now ≡ fails old
  pub sends : send_fails now ≡ send_fails old
  pub orderly : IsOrderly (stands old) (tells old) → IsOrderly (stands now) (tells now)

-- nothing came on the connection that is kept; where it isn't kept, it was sent the memory response
abbrev pub Greets : Lefts → Lefts → ℕ → Listening → Listening → Option Talk → Option Talk → Type 0
Greets core core' c s s' talk talk' =
    (Acted core core' c (Some (record { taken = 0; unread = [] })) s s' × (talk' ≡ talk))
    ⊎ (Acted core core' c None s s' × Starved c talk talk')

-- what was kept of the connection, and what is kept of it now
pub record Heeds (Over : Corpus → Type 0) (core core' : Lefts) (c : ℕ) (piece : List ℕ) (s s' : Listening) (before now : ℕ)
    (talk talk' : Option Talk) : Type 0 where
  pub old : Left
  pub was : left_at core c ≡ Some old
  pub kept : Option Left
  pub received : Received Over c old piece kept before now talk talk'
  pub acted : Acted core core' c kept s s'

-- an opened connection adds the bytes that count and its end; a piece and an end take away at least one; Over adds nothing
abbrev pub Lightens : Event → Lefts → Lefts → Type 0
Lightens (Opened c) core core' = weight core' ≤ weight core + (MAX_CONNECTION_BYTES + 1)
Lightens (Piece c n) core core' = weight core' < weight core
Lightens (Ended c) core core' = weight core' < weight core
Lightens Over core core' = Unit {0}

-- the events that came stay as they are, or still aren't told
abbrev pub KeepsCame : Option Talk → Option Talk → Type 0
KeepsCame talk talk' = option_map (λ t. t.came) talk' ≡ option_map (λ t. t.came) talk

-- the core keeps the live connections, and behind Over none; the others stay as they are, and of the hub's state only which are live
-- changes. No event came, a connection broke only where a send failed, and what holds after each call of a hub does
pub record TakesStep {H : Type 0} (stands : H → Listening) (tells : H → Option Talk) (fails send_fails : H → ℕ) (event : Event) (core core' : Lefts)
    (old now : H) : Type 0 where
  pub live : HasLive core' (stands now)
  pub over : event ≡ Over → (c : ℕ) → left_at core' c ≡ None
  pub others : LeavesOthers event core core' (stands old) (stands now) (tells old) (tells now)
  pub same : stands now ≡ record (stands old) { live = (stands now).live }
  pub came : KeepsCame (tells old) (tells now)
  pub faults : fails now ≡ fails old
  pub breaks : BreaksBy (send_fails old) (send_fails now) (tells old) (tells now)
  pub orderly : IsOrderly (stands old) (tells old) → IsOrderly (stands now) (tells now)
  pub lighter : Lightens event core core'

-- so many more bytes were taken, fewer than count, and the unread bytes are those behind the last head
pub record TakesPiece (l : Left) (piece : List ℕ) (l' : Left) : Type 0 where
  pub taken : l'.taken ≡ l.taken + length piece
  pub room : l'.taken < MAX_CONNECTION_BYTES
  pub rest : IsRest (l.unread ++ take (MAX_CONNECTION_BYTES - l.taken) piece) l'.unread

-- one that opened is kept and is sent nothing, or is told want of memory; behind a piece that of it is kept; one that ended is kept no
-- more, and nothing is sent, as at Over
abbrev pub ActsOn : Event → Lefts → Lefts → List ℕ → Listening → Listening → Option Talk → Option Talk → Type 0
ActsOn (Opened c) core core' piece s s' talk talk' = Greets core core' c s s' talk talk'
ActsOn (Piece c n) core core' piece s s' talk talk' = (l l' : Left) → left_at core c ≡ Some l → left_at core' c ≡ Some l' → TakesPiece l piece l'
ActsOn (Ended c) core core' piece s s' talk talk' = (left_at core' c ≡ None) × (talk' ≡ talk)
ActsOn Over core core' piece s s' talk talk' = talk' ≡ talk

-- ---- the loop
-- a piece has bytes, and no more than the buffer
abbrev pub HasBytes : Event → ℕ → Type 0
HasBytes (Opened c) size = Unit {0}
HasBytes (Piece c n) size = (0 < n) × (n ≤ size)
HasBytes (Ended c) size = Unit {0}
HasBytes Over size = Unit {0}

-- a connection that opens is one of so many
abbrev pub OpensBelow : Event → ℕ → Type 0
OpensBelow (Opened c) conns = c < conns
OpensBelow (Piece c n) conns = Unit {0}
OpensBelow (Ended c) conns = Unit {0}
OpensBelow Over conns = Unit {0}

-- one more was opened, or as many as before, or nothing more comes
abbrev pub GoesOnAfter : Event → ℕ → Round → Type 0
GoesOnAfter (Opened c) opened r = r ≡ round.Goes (c + 1)
GoesOnAfter (Piece c n) opened r = r ≡ round.Goes opened
GoesOnAfter (Ended c) opened r = r ≡ round.Goes opened
GoesOnAfter Over opened r = r ≡ round.Over

-- 0 where all were opened and none is kept
abbrev pub still : ℕ → ℕ → Lefts → ℕ
still conns opened core = (conns - opened) * (MAX_CONNECTION_BYTES + 2) + weight core

-- how many events came so far; 0 where that isn't told
abbrev pub came_by : Option Talk → ℕ
came_by None = 0
came_by (Some t) = length t.came

-- an event came, and less is left to come; or nothing more comes, no connection is live and nothing was sent; or the hub failed, and nothing changed
abbrev pub Went : Round → Listening → Listening → Option Talk → Option Talk → ℕ → ℕ → Lefts → Lefts → Type 0
Went (round.Goes n) s s' talk talk' faults faults' core core' = (s'.opened ≡ n) × (faults' ≡ faults) × (still s.conns n core' < still s.conns s.opened core)
    × (n ≤ s.conns) × (s'.over ≡ s.over) × (came_by talk' ≤ came_by talk + 1)
Went round.Over s s' talk talk' faults faults' core core' =
    (s'.over ≡ true) × (faults' ≡ faults) × ((c : ℕ) → set.contains s'.live c ≡ false) × (came_by talk' ≤ came_by talk + 1)
    × (talk' ≡ option_map (hears (came_of Over [])) talk)
Went round.Failed s s' talk talk' faults faults' core core' = Rose faults faults' × (s' ≡ s) × (core' ≡ core) × (talk' ≡ talk)

-- where the core followed the hub before the round, it follows it after it, and the count of failures rose by as many as say Read
abbrev pub StaysServed : Corpus → Lefts → Lefts → Listening → Listening → Option Talk → Option Talk → ℕ → ℕ → Type 0
StaysServed k core core' s s' talk talk' before now =
    (n : ℕ) → Follows k core s talk n → (more : ℕ) × Follows k core' s' talk' (n + more) × RoseBy more before now

-- the core keeps the live connections, port and room of the hub stay, a connection broke only where a send failed, and what holds after
-- each call of a hub does
pub record StaysBeside {H : Type 0} (stands : H → Listening) (tells : H → Option Talk) (send_fails : H → ℕ) (conns : ℕ) (core : Lefts)
    (old now : H) : Type 0 where
  pub live : HasLive core (stands now)
  pub orderly : IsOrderly (stands now) (tells now)
  pub port : (stands now).port ≡ (stands old).port
  pub room : (stands now).conns ≡ conns
  pub breaks : BreaksBy (send_fails old) (send_fails now) (tells old) (tells now)
