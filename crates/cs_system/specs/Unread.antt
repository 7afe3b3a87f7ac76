-- What is kept of a connection's bytes.
--
--   unread_of socket   the bytes that were read and aren't yet given
use Rattle.std.specs.Prelude.{ℕ, List, drop}
use Rattle.cs_system.specs.declared.socket.Socket.{Socket}

abbrev pub unread_of : {S : Type 0} → Socket S → List ℕ
unread_of s = drop s.given s.unread.items
