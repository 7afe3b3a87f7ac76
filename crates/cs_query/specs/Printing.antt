-- Words of the calls that print a query and cut its last prefix.
--
--   separator sign i         the sign in front of the i-th entry, counted from 0; in front of the first one nothing
--   following sign i xs      the entries xs, of which the first is the i-th, each with what stands in front of it
--   Continues w p            the text p begins with w, and goes on with whole characters
use Rattle.std.specs.Str.{IsUtf8}
use Rattle.std.specs.Prelude.{◌≡◌, ℕ, ◌+◌, nat_lt, if◌then◌else◌, List, [], ◌∷◌, ◌++◌, encode_utf8}

-- in front of the first one nothing
abbrev pub separator : ℕ → ℕ → List ℕ
separator sign i = if nat_lt 0 i then encode_utf8 sign else []

-- of no entry nothing
abbrev pub following : ℕ → ℕ → List (List ℕ) → List ℕ
following sign i [] = []
following sign i (x ∷ xs) = separator sign i ++ (x ++ following sign (i + 1) xs)

-- the text p begins with w, and goes on with whole characters, or ends there
pub record Continues (w p : List ℕ) : Type 0 where
  pub more : List ℕ
  pub utf8 : IsUtf8 more
  pub same : p ≡ w ++ more
