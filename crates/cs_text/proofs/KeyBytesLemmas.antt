-- A text of key bytes is its own key text.
--
--   IsAscii-key_bytes    a text of key bytes is ASCII
--   norm-key_bytes       a text of key bytes is its own key text
--   norm-has_name_form   what has the form of a name is its own key text
use Rattle.std.proofs.Common.{◌≡◌, ℕ, ◌<◌, true, List, [], ◌∷◌, refl, ap, ◌∙◌, arith}
use Rattle.std.specs.Char.{to_ascii_lowercase}
use Rattle.std.specs.List.{list_all}
use Rattle.std.specs.Str.{IsAscii}
use Rattle.std.proofs.lemmas.Bool.{and_parts, and_from}
use Rattle.std.proofs.lemmas.Bool.Decides.{nat_tests}
use Rattle.cs_model.specs.Ascii.{ascii_norm}
use Rattle.cs_model.specs.Collection.{has_name_form, begins_with_letter, is_name_byte}
use Rattle.cs_model.specs.KeyText.{norm}
use Rattle.cs_model.proofs.AsciiLemmas.{AllAscii, IsAscii-from_AllAscii, norm-ascii}
use Rattle.cs_text.specs.KeyBytes.{is_key_byte}

ascii_byte : (b : ℕ) → is_key_byte b ≡ true → b < 128
ascii_byte b h = grind (arith, nat_tests)

lowercase-key_byte : (b : ℕ) → is_key_byte b ≡ true → to_ascii_lowercase b ≡ b
lowercase-key_byte b h = grind (arith, nat_tests)

AllAscii-key_bytes : (s : List ℕ) → list_all is_key_byte s ≡ true → AllAscii s
AllAscii-key_bytes [] h = tt
AllAscii-key_bytes (b ∷ s) h = let both = and_parts (is_key_byte b) (list_all is_key_byte s) h in (ascii_byte b both.0, AllAscii-key_bytes s both.1)

pub IsAscii-key_bytes : (s : List ℕ) → list_all is_key_byte s ≡ true → IsAscii s
IsAscii-key_bytes s h = IsAscii-from_AllAscii s (AllAscii-key_bytes s h)

ascii_norm-key_bytes : (s : List ℕ) → list_all is_key_byte s ≡ true → ascii_norm s ≡ s
ascii_norm-key_bytes [] h = refl
ascii_norm-key_bytes (b ∷ s) h = let both = and_parts (is_key_byte b) (list_all is_key_byte s) h in rw (lowercase-key_byte b both.0) (ap (λ bs. b ∷ bs) (ascii_norm-key_bytes s both.1))

pub norm-key_bytes : (s : List ℕ) → list_all is_key_byte s ≡ true → norm s ≡ s
norm-key_bytes s h = norm-ascii s (IsAscii-key_bytes s h) ∙ ascii_norm-key_bytes s h

-- ---- names

key_byte-name_byte : (b : ℕ) → is_name_byte b ≡ true → is_key_byte b ≡ true
key_byte-name_byte b h = grind (arith, nat_tests)

pub key_bytes-name_bytes : (n : List ℕ) → list_all is_name_byte n ≡ true → list_all is_key_byte n ≡ true
key_bytes-name_bytes [] h = refl
key_bytes-name_bytes (b ∷ n) h =
    let both = and_parts (is_name_byte b) (list_all is_name_byte n) h in
    and_from (is_key_byte b) (list_all is_key_byte n) (key_byte-name_byte b both.0) (key_bytes-name_bytes n both.1)

pub norm-has_name_form : (n : List ℕ) → has_name_form n ≡ true → norm n ≡ n
norm-has_name_form n h =
    norm-key_bytes n (key_bytes-name_bytes n (and_parts (list_all is_name_byte n) _ (and_parts (begins_with_letter n) _ h).1).0)
