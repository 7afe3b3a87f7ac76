-- What is known of a character by its class.
--
--   class_cases     what follows from each test for a class holds of the class of a character
use Rattle.std.proofs.Common.{◌≡◌, ℕ, Bool, true, false, refl}
use Rattle.std.specs.Prelude.{◌||◌, ◌==◌, if◌then◌else◌}
use Rattle.cs_model.specs.declared.kinds.Class.{Class}
use Rattle.cs_model.specs.declared.kinds.Class.TheVariants as c
use Rattle.cs_model.specs.Words.{is_word_char}
use Rattle.cs_model.specs.Tokens.{class_of}

class_if : (P : Class → Type 0) (b : Bool) (k l : Class) → (b ≡ true → P k) → P l → P (if b then k else l)
class_if P true k l h j = h refl
class_if P false k l h j = j

pub class_cases : (P : Class → Type 0) (x : ℕ) → (is_word_char x ≡ true → P c.Letter) → ((x == 46) ≡ true → P c.Dot)
    → (((x == 45) || ((x == 95) || (x == 39))) ≡ true → P c.Joiner) → ((x == 36) ≡ true → P c.Dollar) → ((x == 124) ≡ true → P c.Bar)
    → ((x == 58) ≡ true → P c.Colon) → ((x == 91) ≡ true → P c.Open) → ((x == 93) ≡ true → P c.Close) → P c.Other → P (class_of x)
class_cases P x letter dot joiner dollar bar colon opens closes other =
    class_if P (is_word_char x) c.Letter _ letter
    (class_if P (x == 46) c.Dot _ dot
    (class_if P ((x == 45) || ((x == 95) || (x == 39))) c.Joiner _ joiner
    (class_if P (x == 36) c.Dollar _ dollar
    (class_if P (x == 124) c.Bar _ bar
    (class_if P (x == 58) c.Colon _ colon
    (class_if P (x == 91) c.Open _ opens
    (class_if P (x == 93) c.Close c.Other closes other)))))))
