use Rattle.std.proofs.Common.{◌≡◌, ℕ, ◌<◌, ◌/◌, ◌%◌, ◌*◌, ◌^◌, zero, suc, [], ◌∷◌, get_or, arith}
use Rattle.std.specs.Int.{from_le_bytes, w32}
use Rattle.cs_rows.proofs.packing.one_of.Goals as goal

by_number : (a b c all n : ℕ) → a < 256 → b < 256 → c < 256 → all ≡ from_le_bytes w32 (a ∷ b ∷ c ∷ 0 ∷ []) → n < 4
    → all / 2 ^ (8 * n) % 256 ≡ get_or (a ∷ b ∷ c ∷ []) n 0
by_number a b c all zero la lb lc is few = omega (arith, la, lb, lc, is)
by_number a b c all (suc zero) la lb lc is few = omega (arith, la, lb, lc, is)
by_number a b c all (suc (suc zero)) la lb lc is few = omega (arith, la, lb, lc, is)
by_number a b c all (suc (suc (suc zero))) la lb lc is few = omega (arith, la, lb, lc, is)
by_number a b c all (suc (suc (suc (suc n)))) la lb lc is few = absurd (omega (arith, few))

pub returns : goal.returns
returns c = by_number c.args.first c.args.second c.args.third c.from_le_bytes-all.result c.args.n c.ranges.first.fits c.ranges.second.fits c.ranges.third.fits
    c.from_le_bytes-all.ensures c.requires
