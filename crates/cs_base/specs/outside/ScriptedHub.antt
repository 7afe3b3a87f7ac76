-- A hub that plays a script: which event comes next, and what each call leaves.
--
-- Source: this engine's own.
--
--   ScriptState          what a script's hub tells, what is left of its script, which calls are to fail, and its counts of faults
--   script_begun es      such a hub before its first call
--   is_lawful s e        event e of a script may come next
--   playable s es        the script from its first lawful event on
--   comes s room es      the event, with its bytes, that the first event of a script is
--   left_behind room es  what is left of the script behind it
--   becomes e s          what every hub tells behind event e
--   played, listening_anew, sent_all, cut_off, hung_up    such a hub behind what a call did
--   next_called, send_called                      a call more of `listen` or `next`, or of `send`, was made
--   next_missed                                   one of `listen` or `next` was made, and failed
--   listening_code, came_code, talk_code, script_code      these as pairs, from which they are read back
use Rattle.std.specs.Prelude.{ℕ, ◌+◌, min, nat_lt, Bool, ◌&&◌, List, [], ◌∷◌, take, drop, length, true, refl}
use Rattle.std.specs.List.{position_or_len}
use Rattle.std.specs.Coded.{Coded, code_by, coded×, coded_list, coded_ℕ, coded_bool}
use Rattle.std.specs.Ordering.{nat_cmp}
use Rattle.std.specs.FinMap as map
use Rattle.std.specs.FinSet as set
use Rattle.cs_base.specs.outside.Causes.{one_more}
use Rattle.cs_base.specs.outside.FailingCalls.{after_call}
use Rattle.cs_base.specs.outside.Hub.{Conns, Listening, Talk, Came, listens, silent, hears, sends, breaks}
use Rattle.cs_base.specs.declared.outside.hub.Event.{Event}
use Rattle.cs_base.specs.declared.outside.hub.Event.TheVariants.{Opened, Piece, Ended, Over}
use Rattle.cs_base.specs.declared.outside.script.Scripted.{Scripted}
use Rattle.cs_base.specs.declared.outside.script.Scripted.TheVariants.{Opened as Opens, Piece as Gives, Ended as Ends}

-- a hub that plays a script: what every hub tells, its talk, the events that are left, the calls of `listen` and `next` and
-- those of `send` that are to fail, and how many of either failed
pub record ScriptState : Type 0 where
  pub hub : Listening
  pub talk : Talk
  pub left : List Scripted
  pub next_calls : List ℕ
  pub send_calls : List ℕ
  pub faults : ℕ
  pub send_faults : ℕ

-- what every hub tells as its five parts, from which it is read back
abbrev pub listening_code : Coded Listening
listening_code = code_by (ℕ × (ℕ × (ℕ × (Conns × Bool)))) (coded× coded_ℕ (coded× coded_ℕ (coded× coded_ℕ (coded× (set.code coded_ℕ) coded_bool)))) (λ s. (s.port, (s.conns, (s.opened, (s.live, s.over))))) (λ p. record { port = p.0; conns = p.1.0; opened = p.1.1.0; live = p.1.1.1.0; over = p.1.1.1.1 }) (λ _. refl)

-- an event that came as a pair, from which it is read back, by the code of its event
abbrev pub came_code : Coded Event → Coded Came
came_code e = code_by (Event × List ℕ) (coded× e (coded_list coded_ℕ)) (λ s. (s.event, s.bytes)) (λ p. record { event = p.0; bytes = p.1 }) (λ _. refl)

-- a talk as its three parts, likewise
abbrev pub talk_code : Coded Event → Coded Talk
talk_code e = code_by (List Came × (map.FinMap nat_cmp (List ℕ) × Conns)) (coded× (coded_list (came_code e)) (coded× (map.code coded_ℕ (coded_list coded_ℕ)) (set.code coded_ℕ))) (λ t. (t.came, (t.sent, t.broken))) (λ p. record { came = p.0; sent = p.1.0; broken = p.1.1 }) (λ _. refl)

-- the state of a script's hub as its seven parts, from which it is read back, by the codes of the two kinds of events
abbrev pub script_code : Coded Event → Coded Scripted → Coded ScriptState
script_code e f = code_by (Listening × (Talk × (List Scripted × (List ℕ × (List ℕ × (ℕ × ℕ)))))) (coded× listening_code (coded× (talk_code e) (coded× (coded_list f) (coded× (coded_list coded_ℕ) (coded× (coded_list coded_ℕ) (coded× coded_ℕ coded_ℕ)))))) (λ s. (s.hub, (s.talk, (s.left, (s.next_calls, (s.send_calls, (s.faults, s.send_faults))))))) (λ p. record { hub = p.0; talk = p.1.0; left = p.1.1.0; next_calls = p.1.1.1.0; send_calls = p.1.1.1.1.0; faults = p.1.1.1.1.1.0; send_faults = p.1.1.1.1.1.1 }) (λ _. refl)

-- before its first call: the whole script is left, no call is to fail, and there is room for no connection
abbrev pub script_begun : List Scripted → ScriptState
script_begun events = record { hub = listens 0 0; talk = silent; left = events; next_calls = []; send_calls = []; faults = 0; send_faults = 0 }

-- the event may come next: an opening while there is room, a piece of at least one byte or an end on a live connection
abbrev pub is_lawful : Listening → Scripted → Bool
is_lawful s Opens = nat_lt s.opened s.conns
is_lawful s (Gives c bytes) = nat_lt 0 (length bytes) && set.contains s.live c
is_lawful s (Ends c) = set.contains s.live c

-- the script from its first lawful event on, the others in front of it left out; empty where no lawful one is left
abbrev pub playable : Listening → List Scripted → List Scripted
playable s events = drop (position_or_len (is_lawful s) events) events

-- what comes where a script begins so, into a buffer of so many bytes: the next number opens, as many bytes come as the buffer
-- holds, or a connection ends; Over where the script is empty
abbrev pub comes : Listening → ℕ → List Scripted → Came
comes s room [] = record { event = Over; bytes = [] }
comes s room (Opens ∷ events) = record { event = Opened s.opened; bytes = [] }
comes s room (Gives c bytes ∷ events) = record { event = Piece c (min room (length bytes)); bytes = take room bytes }
comes s room (Ends c ∷ events) = record { event = Ended c; bytes = [] }

-- what is left of the script then: of a piece the bytes behind those that came; a piece of which no byte is left isn't lawful
abbrev pub left_behind : ℕ → List Scripted → List Scripted
left_behind room [] = []
left_behind room (Opens ∷ events) = events
left_behind room (Gives c bytes ∷ events) = Gives c (drop room bytes) ∷ events
left_behind room (Ends c ∷ events) = events

-- what every hub tells behind an event: an opened connection is live, an ended one isn't, and Over stays
abbrev pub becomes : Event → Listening → Listening
becomes (Opened c) s = record s { opened = s.opened + 1; live = set.insert s.live c }
becomes (Piece c n) s = s
becomes (Ended c) s = record s { live = set.remove s.live c }
becomes Over s = record s { over = true }

-- behind a `next` into a buffer of so many bytes: the first lawful event came, Over where none was left
abbrev pub played : ℕ → ScriptState → ScriptState
played room s =
    let events = playable s.hub s.left in
    let came = comes s.hub room events in
    record s { hub = becomes came.event s.hub; talk = hears came s.talk; left = left_behind room events }

-- behind a `listen`: it begins anew with nothing opened and a silent talk, and what is left of the script stays
abbrev pub listening_anew : ℕ → ℕ → ScriptState → ScriptState
listening_anew port conns s = record s { hub = listens port conns; talk = silent }

-- behind a `send` of all the bytes, which may be none
abbrev pub sent_all : ℕ → List ℕ → ScriptState → ScriptState
sent_all c bytes s = record s { talk = sends c bytes s.talk }

-- behind a `send` that failed: no byte was sent, and the connection is broken
abbrev pub cut_off : ℕ → ScriptState → ScriptState
cut_off c s = record s { talk = breaks c (sends c [] s.talk); send_faults = one_more s.send_faults }

-- behind a `close`: the connection, which may not have been live, isn't
abbrev pub hung_up : ℕ → ScriptState → ScriptState
hung_up c s = record s { hub = record s.hub { live = set.remove s.hub.live c } }

-- a call more of `listen` or `next` was made
abbrev pub next_called : ScriptState → ScriptState
next_called s = record s { next_calls = after_call s.next_calls }

-- a call more of `send` was made
abbrev pub send_called : ScriptState → ScriptState
send_called s = record s { send_calls = after_call s.send_calls }

-- a call more of `listen` or `next` was made and failed: nothing but its counts changed
abbrev pub next_missed : ScriptState → ScriptState
next_missed s = record (next_called s) { faults = one_more s.faults }
