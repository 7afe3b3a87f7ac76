-- The first line of a text, by its length and the place behind it.
--
--   Shows text len next    the first LF of the text stands directly before `next`, and the line before it has len bytes without
--                          its one CR; or there is no LF, and both are the text's length
use Rattle.std.specs.Prelude.{◌≡◌, ◌⊎◌, ◌+◌, ℕ, List, length, take, Some, None}
use Rattle.std.specs.Str.Lines.{strip_carriage_return}
use Rattle.memchr.specs.Find.{IsFirstByte, is_byte}

abbrev pub Shows : List ℕ → ℕ → ℕ → Type 0
Shows text len next =
    ((i : ℕ) × (next ≡ i + 1) × IsFirstByte (is_byte 10) text (Some i) × (take len text ≡ strip_carriage_return (take i text)))
    ⊎ (IsFirstByte (is_byte 10) text None × (len ≡ length text) × (next ≡ length text))
