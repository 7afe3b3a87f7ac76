-- The first bytes of a word as one number, by which words are mostly sorted.
--
-- Source: this engine's own.
--
--   lead n w       the number of the first n bytes of w, of which the first one counts most
use Rattle.std.specs.Prelude.{ℕ, zero, suc, ◌+◌, ◌*◌, List, slice_index_or}

-- a byte that the word hasn't is 0 in it
abbrev pub lead : ℕ → List ℕ → ℕ
lead zero w = 0
lead (suc n) w = lead n w * 256 + slice_index_or w n 0
