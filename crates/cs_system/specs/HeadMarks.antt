-- What the bytes of a connection end with.
--
-- Source: RFC 9112, section 2.1 and 2.2: a head is lines up to an empty one; empty lines in front of it are skipped.
--
--   has_begun mark   a head has begun that hasn't ended
--   IsBetween mark   none has
use Rattle.std.specs.Prelude.{◌≡◌, Bool, true, false}
use Rattle.cs_system.specs.declared.heads.HeadMark.{HeadMark}

abbrev pub has_begun : HeadMark → Bool
has_begun HeadMark.Between = false
has_begun HeadMark.BetweenReturn = false
has_begun HeadMark.Text = true
has_begun HeadMark.Line = true
has_begun HeadMark.LineReturn = true

abbrev pub IsBetween : HeadMark → Type 0
IsBetween mark = has_begun mark ≡ false
