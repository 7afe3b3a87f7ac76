-- The gap code of a number: its bytes in base 128, the low ones first, with the top bit on all but the last.
--
-- Source: the little-endian base-128 spelling known from DWARF (LEB128, unsigned), in its shortest form.
--
--   code_in k n         the code of n where at most k + 1 bytes may be used
--   code n              the code of a number below 2^32, which has at most 5 bytes; that of 0 is one zero byte
--   looked_at k bytes   the first bytes up to one without the top bit, at most k; all where there are fewer
--   value_of bytes      the number whose base-128 digits the bytes hold, top bits aside; of no bytes 0
--   first_code bytes    the number below 2^32 whose code stands at the front; None where none does
use Rattle.std.specs.Prelude.{ℕ, zero, suc, ◌+◌, ◌*◌, ◌/◌, ◌%◌, ◌^◌, cond, nat_lt, nat_eq, ◌&&◌, List, [], ◌∷◌, Option, Some, None, if◌then◌else◌}
use Rattle.std.specs.List.{starts_with}

-- the code of n in at most k + 1 bytes, seven bits a byte; where they don't suffice, the last one is 128 or more
unfoldable pub code_in : ℕ → ℕ → List ℕ
code_in zero n = n ∷ []
code_in (suc k) n = cond (nat_lt n 128) (n ∷ []) ((n % 128 + 128) ∷ code_in k (n / 128))

-- the code of a number, its shortest form, of at most five bytes; that of 0 is one zero byte
unfoldable pub code : ℕ → List ℕ
code n = code_in 4 n

-- the bytes at the front that may belong to one code, at most k of them; of no bytes none
unfoldable pub looked_at : ℕ → List ℕ → List ℕ
looked_at zero bytes = []
looked_at (suc k) [] = []
looked_at (suc k) (b ∷ bytes) = b ∷ cond (nat_lt b 128) [] (looked_at k bytes)

-- the number that the bytes spell, the low seven bits first; of no bytes 0
unfoldable pub value_of : List ℕ → ℕ
value_of [] = 0
value_of (b ∷ bytes) = b % 128 + 128 * value_of bytes

-- the number whose code the bytes begin with; None where they begin with none, as no bytes do
unfoldable pub first_code : List ℕ → Option ℕ
first_code bytes = let n = value_of (looked_at 5 bytes) in if nat_lt n (2 ^ 32) && starts_with nat_eq bytes (code n) then Some n else None
