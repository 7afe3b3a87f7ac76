-- Whether one more connection can be kept.
--
-- Source: this engine's own.
--
--   HasSeat sockets   keeping one more takes no memory
use Rattle.std.specs.Prelude.{◌<◌, vec_len, vec_capacity}
use Rattle.slab.specs.Slab.{HasRoomFor}
use Rattle.cs_system.specs.declared.sockets.Sockets.{Sockets}

abbrev pub HasSeat : Sockets → Type 0
HasSeat s = HasRoomFor s.slab 1 × (vec_len s.places < vec_capacity s.places)
