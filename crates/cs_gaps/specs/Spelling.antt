-- What holds of all codes of numbers below 2^32.
--
--   OneSpelling    equal texts of a code and more have one number, and the same behind it
--   FirstIsFound   the first code of a code and more is that code
--   FoundIsFirst   what has a first code begins with it
use Rattle.std.specs.Prelude.{◌≡◌, ℕ, ◌<◌, ◌^◌, List, ◌++◌, length, drop, Some}
use Rattle.cs_base.specs.index.GapCode.{code, first_code}

-- no number has two codes, and no code begins another
abbrev pub OneSpelling : Type 0
OneSpelling = (n m : ℕ) (x y : List ℕ) → n < 2 ^ 32 → m < 2 ^ 32 → code n ++ x ≡ code m ++ y → (n ≡ m) × (x ≡ y)

-- whatever stands behind the code
abbrev pub FirstIsFound : Type 0
FirstIsFound = (n : ℕ) (rest : List ℕ) → n < 2 ^ 32 → first_code (code n ++ rest) ≡ Some n

-- and the number is below 2^32
abbrev pub FoundIsFirst : Type 0
FoundIsFirst = (n : ℕ) (bytes : List ℕ) → first_code bytes ≡ Some n → (n < 2 ^ 32) × (bytes ≡ code n ++ drop (length (code n)) bytes)
