-- Numbers that are written in ASCII digits.
--
-- Source: none of its own.
--
--   number_of w       the number that digits spell, leading zeros read; 0 for no digits
--   has_digits n w    w is 1 to n digits
use Rattle.std.specs.Prelude.{ℕ, ◌+◌, ◌-◌, ◌*◌, Bool, ◌&&◌, nat_le, nat_lt, List, fold, length}
use Rattle.std.specs.Char.{is_ascii_digit}
use Rattle.std.specs.List.{list_all}
use Rattle.cs_base.specs.content.Bytes.{digit_0}

-- the number that digits spell, leading zeros read; 0 for no digits
abbrev pub number_of : List ℕ → ℕ
number_of w = fold (λ n c. n * 10 + (c - digit_0)) 0 w

-- the text is 1 to n ASCII digits; the empty text isn't
abbrev pub has_digits : ℕ → List ℕ → Bool
has_digits n w = nat_lt 0 (length w) && (nat_le (length w) n && list_all is_ascii_digit w)
