-- What is known of a file.
--
--   known_size c     the number of its bytes, where that is known
--   whole_bytes c    the bytes of a stream
--   made_of o        the file that is being made, if one is
--   IsMade c         it is being made
--   IsLost c         it can't be read any more
--   untold           what the system's files tell of what they hold: nothing
use Rattle.std.specs.Prelude.{⊤, ℕ, List, length, Option, Some, None}
use Rattle.cs_base.specs.outside.Outside.{Held}
use Rattle.cs_system.specs.declared.disk.Content.{Content}
use Rattle.cs_system.specs.declared.disk.Content.TheVariants.{Pieces, Whole, Made, Lost}

-- the system's files don't tell what they hold
abbrev pub untold : Option Held
untold = None

-- the bytes of a stream, all that came
abbrev pub whole_bytes : {F M : Type 0} → Content F M → Option (List ℕ)
whole_bytes (Whole b) = Some b.items
whole_bytes _ = None

-- the number of bytes of a file that is read; None of one that is being made, and of one that is lost
abbrev pub known_size : {F M : Type 0} → Content F M → Option ℕ
known_size (Pieces f n) = Some n
known_size (Whole b) = Some (length b.items)
known_size _ = None

-- the file that is being made; None where nothing is known of the name, or something else
abbrev pub made_of : {F M : Type 0} → Option (Content F M) → Option M
made_of (Some (Made m)) = Some m
made_of _ = None

-- it is being made
abbrev pub IsMade : {F M : Type 0} → Content F M → Type 0
IsMade (Made m) = ⊤
IsMade _ = ⊥

-- it can't be read any more
abbrev pub IsLost : {F M : Type 0} → Content F M → Type 0
IsLost Lost = ⊤
IsLost _ = ⊥
