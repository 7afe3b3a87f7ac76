-- How a word keeps its bytes: few of them in place, more of them in memory of their own.
--
--   bytes_in f    the bytes
--   IsForm f      there are from 1 to MAX_WORD_BYTES of them, in place at most SHORT_BYTES
use Rattle.std.specs.Prelude.{ℕ, ◌≤◌, List, take, length}
use Rattle.cs_base.specs.declared.content.limits.TheConstants.{MAX_WORD_BYTES}
use Rattle.cs_base.specs.declared.content.word.TheConstants.{SHORT_BYTES}
use Rattle.cs_base.specs.declared.content.word.WordForm.{WordForm}
use Rattle.cs_base.specs.declared.content.word.WordForm.TheVariants.{InPlace, Apart}

-- what stands in place behind the first `len` has no say
abbrev pub bytes_in : WordForm → List ℕ
bytes_in (InPlace len bytes) = take len bytes
bytes_in (Apart bytes) = bytes.value.items

-- a word in place has no more bytes than the place
abbrev pub IsForm : WordForm → Type 0
IsForm (InPlace len bytes) = (1 ≤ len) × (len ≤ SHORT_BYTES)
IsForm (Apart bytes) = (1 ≤ length bytes.value.items) × (length bytes.value.items ≤ MAX_WORD_BYTES)
