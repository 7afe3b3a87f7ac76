-- What stands where a gap code is looked for.
--
--   last_byte bytes          the last byte; of no bytes 128, which ends no code
--   gap_of looked            what the bytes make that were looked at
--   gap_at bytes             what stands at the front of bytes; the place behind a code is counted from there
--   moved at gap             the same, counted from another place
--   at_last_byte last len n next    what a last byte makes of the number n, where it is the last of so many bytes
--   StandsAt n at next bytes the code of n stands at a place, and next is the place behind it
use Rattle.std.specs.Prelude.{◌≡◌, ℕ, ◌+◌, ◌^◌, ◌<◌, ◌≤◌, ◌&&◌, ◌==◌, nat_lt, List, [], ◌∷◌, ◌++◌, length, drop, if◌then◌else◌}
use Rattle.cs_base.specs.index.GapCode.{code, looked_at, value_of}
use Rattle.cs_gaps.specs.declared.gap.Gap.{Gap}
use Rattle.cs_gaps.specs.declared.gap.Gap.TheVariants.{Is, Cut, Long, Big}

-- the byte that ends a code, if it is below 128; of no bytes 128
abbrev pub last_byte : List ℕ → ℕ
last_byte [] = 128
last_byte (b ∷ []) = b
last_byte (b ∷ c ∷ bytes) = last_byte (c ∷ bytes)

-- A code's last byte is zero only where it is the first; of five bytes the number may still be too big.
abbrev pub at_last_byte : ℕ → ℕ → ℕ → ℕ → Gap
at_last_byte last len n next = if last == 0 && nat_lt 1 len then Long else (if nat_lt n (2 ^ 32) then Is n next else Big)

-- what the bytes make that were looked at; of none Cut
abbrev pub gap_of : List ℕ → Gap
gap_of looked = if nat_lt (last_byte looked) 128 then at_last_byte (last_byte looked) (length looked) (value_of looked) (length looked) else (if length looked == 5 then Big else Cut)

-- at most five bytes are looked at, and none behind the first without the top bit
unfoldable pub gap_at : List ℕ → Gap
gap_at bytes = gap_of (looked_at 5 bytes)

-- only the place behind a code is counted
abbrev pub moved : ℕ → Gap → Gap
moved at (Is n next) = Is n (at + next)
moved at Cut = Cut
moved at Long = Long
moved at Big = Big

-- the code of a number below 2^32 at a place of bytes, and the place behind it
pub record StandsAt (n at next : ℕ) (bytes : List ℕ) : Type 0 where
  pub rest : List ℕ
  pub parts : drop at bytes ≡ code n ++ rest
  pub behind : next ≡ at + length (code n)
  pub below : n < 2 ^ 32
  pub onward : at < next
  pub within : next ≤ length bytes
