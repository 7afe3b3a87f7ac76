-- How four columns lie in one block of memory.
--
--   Extent          where a block begins, and for how many posts it is
--   number_column n, byte_column n     the types of n numbers of four bytes, and of n bytes
--   block_cells n   how many words of four bytes hold 13 bytes a post
--   rooms p n       memory for the four columns of n posts from p on
use Rattle.std.specs.Prelude.{ℕ, ◌+◌, ◌*◌, ◌/◌, refl}
use Rattle.std.specs.Coded.{Coded, code_by, coded×, coded_ℕ}
use base.Fml.{Fml, fsep}
use mir.Syntax.{Ty, ty_int, ty_array, w8, w32}
use denote.RawPtr.{Ptr, coded_ptr, room_for, ◌+ₚ◌}

-- where a block begins, and for how many posts it is
pub record Extent : Type 0 where
  pub ptr : Ptr
  pub cap : ℕ

-- it is stored as the pair of its fields
abbrev pub extent_code : Coded Extent
extent_code = code_by (Ptr × ℕ) (coded× coded_ptr coded_ℕ) (λ e. (e.ptr, e.cap)) (λ p. record { ptr = p.0; cap = p.1 }) (λ _. refl)

-- n numbers of four bytes, side by side
abbrev pub number_column : ℕ → Ty
number_column n = ty_array (ty_int w32) n

-- n bytes, side by side
abbrev pub byte_column : ℕ → Ty
byte_column n = ty_array (ty_int w8) n

-- 13 bytes a post, in words of four bytes
abbrev pub block_cells : ℕ → ℕ
block_cells n = (13 * n + 3) / 4

-- memory for n documents, then n words, then n positions, then n scores, from p on
abbrev pub rooms : Ptr → ℕ → Fml
rooms p n = fsep (room_for (number_column n) p) (fsep (room_for (number_column n) (p +ₚ 4 * n)) (fsep (room_for (number_column n) (p +ₚ 8 * n)) (room_for (byte_column n) (p +ₚ 12 * n))))
