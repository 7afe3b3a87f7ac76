-- What a line of JSON adds to a collection.
--
--   Adds r old new o        the bytes that the line gives are added; where it is bad they stay, and it is said why
--   OverflowsBy r old       with the line's bytes there are more than a collection may have
--   behind_semicolons ss    strings with `;` before each
use Rattle.std.specs.Prelude.{◌≡◌, ◌<◌, ℕ, List, ◌∷◌, ◌++◌, Option, None, Some, length}
use Rattle.std.specs.List.{flat_map}
use Rattle.cs_base.specs.content.Bytes.{semicolon}
use Rattle.cs_base.specs.declared.content.limits.TheConstants.{MAX_COLLECTION_BYTES}
use Rattle.cs_model_sources.specs.JsonSources.{LineRead, given, bad}
use Rattle.cs_model_sources.specs.declared.flat.Why.{Why}

-- from the bytes old to the bytes new; o says why the line is bad, and is None where it isn't
abbrev pub Adds : LineRead → List ℕ → List ℕ → Option Why → Type 0
Adds (given t) old new o = (o ≡ None) × (new ≡ old ++ t)
Adds (bad w) old new o = (o ≡ Some w) × (new ≡ old)

-- a bad line adds nothing, and so is never too much
abbrev pub OverflowsBy : LineRead → List ℕ → Type 0
OverflowsBy (given t) old = MAX_COLLECTION_BYTES < length (old ++ t)
OverflowsBy (bad w) old = ⊥

-- strings with `;` before each, the first one too; of none nothing
abbrev pub behind_semicolons : List (List ℕ) → List ℕ
behind_semicolons ss = flat_map (λ s. semicolon ∷ s) ss
