-- How the rooms of four columns lie.
--
--   LieAt p n ds ws ps ss      these are the rooms of n documents, words, positions and scores, one behind the other from p on
use Rattle.std.specs.Prelude.{◌≡◌, ℕ, ◌*◌}
use denote.RawPtr.{Ptr, ◌+ₚ◌}
use Rattle.cs_cols.specs.declared.rooms.NumberRoom.{NumberRoom}
use Rattle.cs_cols.specs.declared.rooms.ByteRoom.{ByteRoom}

-- the rooms of n documents, words, positions and scores, one behind the other from p on
abbrev pub LieAt : Ptr → ℕ → NumberRoom → NumberRoom → NumberRoom → ByteRoom → Type 0
LieAt p n ds ws ps ss =
    ((ds.ptr ≡ p) × (ws.ptr ≡ p +ₚ 4 * n) × (ps.ptr ≡ p +ₚ 8 * n) × (ss.ptr ≡ p +ₚ 12 * n))
    × ((ds.cap ≡ n) × (ws.cap ≡ n) × (ps.cap ≡ n) × (ss.cap ≡ n))
