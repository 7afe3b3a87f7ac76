-- What the hits so far give to a document.
--
--   base_score b d    the score that a base gives to document d
use Rattle.std.specs.Prelude.{ℕ, ◌==◌, find}
use Rattle.std.specs.Option.{option_map, unwrap_or}
use Rattle.cs_base.specs.declared.content.doc.Base.{Base}
use Rattle.cs_base.specs.declared.content.doc.Base.TheVariants as base

-- 0 where there is no part before, and for a document that isn't listed
abbrev pub base_score : Base → ℕ → ℕ
base_score base.All d = 0
base_score (base.Listed hs) d = unwrap_or (option_map (λ h. h.score) (find (λ h. h.doc == d) hs)) 0
