-- What a hub tells that serves its connections side by side.
--
-- Source: this engine's own.
--
--   live_of ns                   the connections of these numbers, as the set of those that are live
--   telling port conns opened ns what such a hub tells; it never says Over
--   AreBelow n ns                the connections of these numbers were opened
--   IsSocketTurn ns comes buffer turn  a turn concerns the connection that is to come, or a live one; a piece lies in the buffer
--   IsSocketStep ns buffer step        a step concerns a live connection; a piece lies in the buffer
use Rattle.std.specs.Prelude.{◌≡◌, ⊤, ℕ, ◌<◌, ◌≤◌, true, false, List, length, Option, None, Some}
use Rattle.std.specs.Ordering.{nat_cmp}
use Rattle.std.specs.FinSet as set
use Rattle.cs_base.specs.outside.Hub.{Conns, Listening}
use Rattle.cs_system.specs.declared.sockets.SocketTurn.{SocketTurn}
use Rattle.cs_system.specs.declared.sockets.SocketStep.{SocketStep}

-- the set of these numbers
abbrev pub live_of : List ℕ → Conns
live_of ns = set.from_list ns

-- the connection is one of these
abbrev pub Lives : List ℕ → ℕ → Type 0
Lives ns c = set.contains (live_of ns) c ≡ true

-- the parts that every hub tells, and not over
abbrev pub telling : ℕ → ℕ → ℕ → List ℕ → Listening
telling port conns opened ns = record { port = port; conns = conns; opened = opened; live = live_of ns; over = false }

-- each of these was opened
abbrev pub AreBelow : ℕ → List ℕ → Type 0
AreBelow n ns = (c : ℕ) → Lives ns c → c < n

-- a piece of so many bytes on a live connection
abbrev pub IsPiece : List ℕ → List ℕ → ℕ → ℕ → Type 0
IsPiece ns buffer c n = Lives ns c × (0 < n) × (n ≤ length buffer)

abbrev pub IsSocketTurn : List ℕ → Option ℕ → List ℕ → SocketTurn → Type 0
IsSocketTurn ns comes buffer (SocketTurn.Opened c) = comes ≡ Some c
IsSocketTurn ns comes buffer (SocketTurn.Piece c n) = IsPiece ns buffer c n
IsSocketTurn ns comes buffer (SocketTurn.Ended c) = Lives ns c

abbrev pub IsSocketStep : List ℕ → List ℕ → SocketStep → Type 0
IsSocketStep ns buffer (SocketStep.Piece c n more) = IsPiece ns buffer c n
IsSocketStep ns buffer (SocketStep.Ended c) = Lives ns c
IsSocketStep ns buffer (SocketStep.Late c) = Lives ns c
IsSocketStep ns buffer SocketStep.Again = ⊤
IsSocketStep ns buffer SocketStep.Done = ⊤
IsSocketStep ns buffer SocketStep.Rests = ⊤
