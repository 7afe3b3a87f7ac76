-- Bytes that a key text keeps as they are.
--
--   is_key_byte b   whether the byte b is of ASCII, and no capital letter
use Rattle.std.specs.Prelude.{ℕ, Bool, ◌&&◌, not, nat_lt}
use Rattle.std.specs.Char.{is_ascii_uppercase}
use Rattle.cs_base.specs.content.Bytes.{ascii_end}

-- a byte of ASCII that is no letter A to Z; a byte of a longer character isn't one
abbrev pub is_key_byte : ℕ → Bool
is_key_byte b = nat_lt b ascii_end && not (is_ascii_uppercase b)
