-- The form of the texts that a trial's sessions type.
--
--   AreLetters w    w is 1 to 6 letters from a to z
--   IsTyped text    the text is such letters, or such letters twice, with a space between
use Rattle.std.specs.Prelude.{◌≡◌, ◌⊎◌, ℕ, ◌≤◌, List, ◌∷◌, ◌++◌, length}
use Rattle.std.specs.List.{AllByRecursion}
use Rattle.cs_model_trial.specs.declared.sizes.TheConstants.{TYPED_LETTERS}

-- a letter from a, which is 97, to z, which is 122; a capital one isn't
abbrev pub IsLetter : ℕ → Type 0
IsLetter c = (97 ≤ c) × (c ≤ 122)

-- at least one letter, and at most as many as are typed of a word
pub record AreLetters (w : List ℕ) : Type 0 where
  pub letters : AllByRecursion IsLetter w
  pub some : 1 ≤ length w
  pub few : length w ≤ TYPED_LETTERS

-- letters, or letters twice, with a space, which is 32, between; the empty text isn't typed
abbrev pub IsTyped : List ℕ → Type 0
IsTyped text = AreLetters text ⊎ ((a : List ℕ) × (b : List ℕ) × AreLetters a × AreLetters b × (text ≡ a ++ 32 ∷ b))
