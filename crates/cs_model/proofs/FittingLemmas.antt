-- The longest prefix of whole characters that has at most so many bytes.
use Rattle.std.proofs.Common.{◌≡◌, ℕ, zero, suc, ◌+◌, ◌-◌, ◌≤◌, Bool, true, false, nat_le, List, [], ◌∷◌, length, take, refl, ap, sym, ◌∙◌, arith, encode_utf8_all, length-append}
use Rattle.std.specs.Char.{encode_utf8, len_utf8}
use Rattle.std.proofs.lemmas.Bool.{leb-true, leb-false}
use Rattle.std.proofs.lemmas.Str.{length-encode}
use Rattle.cs_model.specs.Words.{fitting}

bytes-cons : (c : ℕ) (cs : List ℕ) → length (encode_utf8_all (c ∷ cs)) ≡ len_utf8 c + length (encode_utf8_all cs)
bytes-cons c cs = length-append (encode_utf8 c) (encode_utf8_all cs) ∙ ap (λ n. n + length (encode_utf8_all cs)) (length-encode c)

fitting-on : (room c : ℕ) (cs : List ℕ) → nat_le (len_utf8 c) room ≡ true → fitting room (c ∷ cs) ≡ c ∷ fitting (room - len_utf8 c) cs
fitting-on room c cs is = rw is

fitting-off : (room c : ℕ) (cs : List ℕ) → nat_le (len_utf8 c) room ≡ false → fitting room (c ∷ cs) ≡ []
fitting-off room c cs is = rw is

-- ---- it fits
fits_at : (b : Bool) (room c : ℕ) (cs : List ℕ) → nat_le (len_utf8 c) room ≡ b → length (encode_utf8_all (fitting (room - len_utf8 c) cs)) ≤ room - len_utf8 c → length (encode_utf8_all (fitting room (c ∷ cs))) ≤ room
fits_at true room c cs is h =
    omega (arith, ap (λ ds. length (encode_utf8_all ds)) (fitting-on room c cs is), bytes-cons c (fitting (room - len_utf8 c) cs), leb-true (len_utf8 c) room is)
fits_at false room c cs is h = omega (arith, ap (λ ds. length (encode_utf8_all ds)) (fitting-off room c cs is))

pub fitting-fits : (room : ℕ) (cs : List ℕ) → length (encode_utf8_all (fitting room cs)) ≤ room
fitting-fits room [] = omega arith
fitting-fits room (c ∷ cs) = fits_at (nat_le (len_utf8 c) room) room c cs refl (fitting-fits (room - len_utf8 c) cs)

-- ---- it is a prefix
prefix_at : (b : Bool) (room c : ℕ) (cs : List ℕ) → nat_le (len_utf8 c) room ≡ b → fitting (room - len_utf8 c) cs ≡ take (length (fitting (room - len_utf8 c) cs)) cs → fitting room (c ∷ cs) ≡ take (length (fitting room (c ∷ cs))) (c ∷ cs)
prefix_at true room c cs is h = fitting-on room c cs is ∙ ap (λ ds. c ∷ ds) h ∙ ap (λ ds. take (length ds) (c ∷ cs)) (sym (fitting-on room c cs is))
prefix_at false room c cs is h = fitting-off room c cs is ∙ ap (λ ds. take (length ds) (c ∷ cs)) (sym (fitting-off room c cs is))

pub fitting-prefix : (room : ℕ) (cs : List ℕ) → fitting room cs ≡ take (length (fitting room cs)) cs
fitting-prefix room [] = refl
fitting-prefix room (c ∷ cs) = prefix_at (nat_le (len_utf8 c) room) room c cs refl (fitting-prefix (room - len_utf8 c) cs)

-- ---- none that fits is longer
longest_at : (b : Bool) (room c : ℕ) (cs : List ℕ) (n : ℕ) → nat_le (len_utf8 c) room ≡ b → length (encode_utf8_all (c ∷ take n cs)) ≤ room
    → (length (encode_utf8_all (take n cs)) ≤ room - len_utf8 c → length (take n cs) ≤ length (fitting (room - len_utf8 c) cs)) → length (c ∷ take n cs) ≤ length (fitting room (c ∷ cs))
longest_at true room c cs n is l h =
    let more = h (omega (arith, l, bytes-cons c (take n cs))) in
    omega (arith, more, ap length (fitting-on room c cs is))
longest_at false room c cs n is l h = absurd (omega (arith, l, bytes-cons c (take n cs), leb-false (len_utf8 c) room is))

pub fitting-longest : (room : ℕ) (cs : List ℕ) (n : ℕ) → length (encode_utf8_all (take n cs)) ≤ room → length (take n cs) ≤ length (fitting room cs)
fitting-longest room cs zero l = omega arith
fitting-longest room [] (suc n) l = omega arith
fitting-longest room (c ∷ cs) (suc n) l = longest_at (nat_le (len_utf8 c) room) room c cs n refl l (fitting-longest (room - len_utf8 c) cs n)
