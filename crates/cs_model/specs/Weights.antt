-- What rows count for by the column of their word, and the line of a collection that says so.
--
-- Source: this engine's own.
--
--   AreWeights w          each weight is from 1 to MAX_ROW_SCORE; two may be equal
--   weights_word          the text `#weights`
--   names_weights l       the line is that text, or begins with it and a space
--   weight_of digits      the weight that 1 to MAX_WEIGHT_DIGITS digits spell; None for any other text
--   weight_in name piece  that of a piece `name=digits`; None for any other piece
--   weights_in pieces     those of the pieces `#weights`, `title=A`, `facet=B`, `text=C`; None for any others
--   weights_said l        those of a line of these pieces with one space between each two; None for any other line
use Rattle.std.specs.Prelude.{◌≤◌, ℕ, ◌+◌, Bool, ◌&&◌, ◌||◌, ◌==◌, nat_eq, if◌then◌else◌, List, [], ◌∷◌, ◌++◌, drop, length, Option, Some, None, codes}
use Rattle.std.specs.Int.{is_in_range}
use Rattle.std.specs.List.{slice_split, starts_with}
use Rattle.std.specs.Str.{bytes_eq}
use Rattle.cs_base.specs.content.Bytes.{equals_sign, space}
use Rattle.cs_base.specs.declared.content.scores.TheConstants.{MAX_ROW_SCORE, MAX_WEIGHT_DIGITS}
use Rattle.cs_base.specs.declared.content.scores.Weights.{Weights}
use Rattle.cs_model.specs.Digits.{has_digits, number_of}

-- each has a byte, and none is 0; those of a collection that names none are
pub record AreWeights (w : Weights) : Type 0 where
  pub title_from : 1 ≤ w.title
  pub title_to : w.title ≤ MAX_ROW_SCORE
  pub facet_from : 1 ≤ w.facet
  pub facet_to : w.facet ≤ MAX_ROW_SCORE
  pub text_from : 1 ≤ w.text
  pub text_to : w.text ≤ MAX_ROW_SCORE

-- what the line of weights begins with
abbrev pub weights_word : List ℕ
weights_word = codes "#weights"

-- the line is this word or goes on with a space; one that goes on with any other sign names none, nor does the empty one
abbrev pub names_weights : List ℕ → Bool
names_weights l = bytes_eq l weights_word || starts_with nat_eq l (weights_word ++ space ∷ [])

-- 1 to MAX_WEIGHT_DIGITS digits, leading zeros read, that spell 1 to MAX_ROW_SCORE; None for the empty text
abbrev pub weight_of : List ℕ → Option ℕ
weight_of digits = if has_digits MAX_WEIGHT_DIGITS digits && is_in_range 1 MAX_ROW_SCORE (number_of digits) then Some (number_of digits) else None

-- the weight behind a name and the sign `=`; None where the piece begins otherwise or spells no weight
abbrev pub weight_in : List ℕ → List ℕ → Option ℕ
weight_in name piece = if starts_with nat_eq piece (name ++ equals_sign ∷ []) then weight_of (drop (length name + 1) piece) else None

-- three weights; None where one of them is missing
abbrev pub weights_by : Option ℕ → Option ℕ → Option ℕ → Option Weights
weights_by (Some title) (Some facet) (Some text) = Some (record { title = title; facet = facet; text = text })
weights_by title facet text = None

-- four pieces in this order and no others; None of no pieces
abbrev pub weights_in : List (List ℕ) → Option Weights
weights_in (word ∷ title ∷ facet ∷ text ∷ []) =
    if bytes_eq word weights_word then weights_by (weight_in (codes "title") title) (weight_in (codes "facet") facet) (weight_in (codes "text") text) else None
weights_in pieces = None

-- the pieces stand between single spaces; None for a line of another form, as the empty one is
unfoldable pub weights_said : List ℕ → Option Weights
weights_said l = weights_in (slice_split (λ b. b == space) l)
