-- What is known of names: of a list's entries the first with the name.
--
--   content_of known name    what is known of the name; None where no entry has it
--   IsKnownAt known name i   the entry of the name stands at place i
use Rattle.std.specs.Prelude.{◌≡◌, ℕ, ◌<◌, List, [], ◌∷◌, length, Option, Some, None, slice_set, slice_index_or, if◌then◌else◌}
use Rattle.std.specs.Str.{bytes_eq}
use Rattle.std.specs.String.{string_bytes}
use Rattle.cs_system.specs.declared.known.Known.{Known}

-- what the first entry with the name says; None where there is none
abbrev pub content_of : {C : Type 0} → List (Known C) → List ℕ → Option C
content_of [] name = None
content_of (k ∷ ks) name = if bytes_eq (string_bytes k.name) name then Some k.content else content_of ks name

-- the entry of the name stands at place i: what is known of the name is what stands there, and what is put there is known of it
pub record IsKnownAt {C : Type 0} (known : List (Known C)) (name : List ℕ) (i : ℕ) : Type 0 where
  pub within : i < length known
  pub found : (d : Known C) → content_of known name ≡ Some (slice_index_or known i d).content
  pub named : (d : Known C) → string_bytes (slice_index_or known i d).name ≡ name
  pub writes : (k : Known C) → string_bytes k.name ≡ name → content_of (slice_set known i k) name ≡ Some k.content
