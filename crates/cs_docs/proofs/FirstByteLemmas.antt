-- The first byte of one kind, as `memchr` finds it.
use Rattle.std.proofs.Common.{◌≡◌, ℕ, List, length, arith}
use Rattle.std.specs.Prelude.{Some, None}
use Rattle.std.specs.List.{position_or_len}
use Rattle.std.proofs.lemmas.Bool.{false_from_ne_true}
use Rattle.std.proofs.lemmas.List.Sums.{position_or_len_is}
use Rattle.memchr.specs.Find.{IsFirstByte, is_byte}

-- it stands where the first one that passes does
pub first_byte_at : (byte : ℕ) (bs : List ℕ) (i : ℕ) → IsFirstByte (is_byte byte) bs (Some i) → position_or_len (is_byte byte) bs ≡ i
first_byte_at byte bs i h = position_or_len_is (is_byte byte) bs i 0 (omega (arith, h.0.high)) (λ k l. false_from_ne_true _ (h.0.before k (omega arith) l)) (λ _. h.1)

-- and there is none where none is found
pub no_first_byte : (byte : ℕ) (bs : List ℕ) → IsFirstByte (is_byte byte) bs None → position_or_len (is_byte byte) bs ≡ length bs
no_first_byte byte bs h = position_or_len_is (is_byte byte) bs (length bs) 0 (omega arith) (λ k l. false_from_ne_true _ (h k (omega arith) l)) (λ l. absurd (omega (arith, l)))
