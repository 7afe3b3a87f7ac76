-- Bytes on their way into a sink: those that were put, and those that are held till there are enough.
--
-- Source: this engine's own.
--
--   HasPut before held bytes now rest     bytes came behind those held; some first ones of all were put, and the rest is held
use Rattle.std.specs.Prelude.{◌≡◌, ℕ, List, ◌++◌, Option}
use Rattle.cs_base.specs.outside.Outside.{Grew}

-- of no bytes none may be put, and what is held stays
pub record HasPut (before : Option (List ℕ)) (held bytes : List ℕ) (now : Option (List ℕ)) (rest : List ℕ) : Type 0 where
  pub put : List ℕ
  pub grew : Grew before put now
  pub told : put ++ rest ≡ held ++ bytes
