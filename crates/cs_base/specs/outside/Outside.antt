-- What sinks, stores and files may tell of themselves. Each meaning is optional: None where the object doesn't tell.
--
-- Source: this engine's own.
--
--   NameMap X                a finite map from names, which are bytes, to X
--   Grew old b new           b was added at the end
--   GrewByPrefix old b new   some first bytes of b were added at the end
--   File, Held               a file's bytes and whether it is finished; the files that are held, by name
--   size_of f                the number of a file's bytes, None where it isn't held
--   bytes_of f               a file's bytes, none where it isn't held
--   file_bytes held name     the bytes of a name, where the files tell
--   HasSize h name n         the name is held, with n bytes
--   Covers f n               the file is held and has at least n bytes
--   IsHeld f                 the file is held
--   is_file_finished f       the file is held and finished
--   part bytes at n          n bytes from a place, fewer where the bytes end before
--   Sets old name f new      what the name holds became f of what it held; all other names stay
--   but_for name held        the files with one name emptied: two that are equal so differ at this name at most
--   empty_file               what create makes of a file
--   whole_file b             a finished file of these bytes
--   appended b f             what append makes of it
--   finished f               what finish makes of it
--
-- An equation under `option_map` also says that whether the object tells stays as it was.
use Rattle.std.specs.Prelude.{◌≡◌, ℕ, ◌≤◌, Bool, true, false, List, [], ◌++◌, take, drop, length, Option, Some, None}
use Rattle.std.specs.Option.{option_map}
use Rattle.std.specs.Ordering.{nat_cmp}
use Rattle.std.specs.Cmp.Lexicographic.{slice_cmp}
use Rattle.std.specs.FinMap as map

-- a finite map from names, which are bytes and may be empty
abbrev pub NameMap : Type 0 → Type 0
NameMap X = map.FinMap (slice_cmp nat_cmp) X

-- b was added at the end of what is told; an empty b leaves it as it was
abbrev pub Grew : Option (List ℕ) → List ℕ → Option (List ℕ) → Type 0
Grew old b new = new ≡ option_map (λ w. w ++ b) old

-- some first bytes of b were added at the end, none or all of them included
abbrev pub GrewByPrefix : Option (List ℕ) → List ℕ → Option (List ℕ) → Type 0
GrewByPrefix old b new = (k : ℕ) × Grew old (take k b) new

-- a file: its bytes, which may be none, and whether it is finished
pub record File : Type 0 where
  pub bytes : List ℕ
  pub finished : Bool

-- the files that are held, each under one name
abbrev pub Held : Type 0
Held = NameMap File

-- the number of a file's bytes; None where it isn't held
abbrev pub size_of : Option File → Option ℕ
size_of f = option_map (λ f. length f.bytes) f

-- a file's bytes; none where it isn't held
abbrev pub bytes_of : Option File → List ℕ
bytes_of None = []
bytes_of (Some f) = f.bytes

-- the bytes of a name, where the files tell; none where it isn't held
abbrev pub file_bytes : Option Held → List ℕ → Option (List ℕ)
file_bytes held name = option_map (λ h. bytes_of (map.get h name)) held

-- the name is held, with exactly n bytes, which may be 0
abbrev pub HasSize : Held → List ℕ → ℕ → Type 0
HasSize h name n = size_of (map.get h name) ≡ Some n

-- a held file of at least n bytes; a file that isn't held has not even 0
abbrev pub Covers : Option File → ℕ → Type 0
Covers None n = ⊥
Covers (Some f) n = n ≤ length f.bytes

-- a held file, even one without bytes
abbrev pub IsHeld : Option File → Type 0
IsHeld f = Covers f 0

-- whether a file is held and finished
abbrev pub is_file_finished : Option File → Bool
is_file_finished None = false
is_file_finished (Some f) = f.finished

-- n bytes from a place, fewer where the bytes end before
abbrev pub part : List ℕ → ℕ → ℕ → List ℕ
part bytes at n = take n (drop at bytes)

-- what a name holds became f of what it held, which may be None, and every other name stays
abbrev pub Sets : Option Held → List ℕ → (Option File → File) → Option Held → Type 0
Sets old name f new = new ≡ option_map (λ h. map.insert h name (f (map.get h name))) old

-- a file that was just made: no bytes, not finished
abbrev pub empty_file : File
empty_file = record { bytes = []; finished = false }

-- a file of these bytes, finished; they may be none
abbrev pub whole_file : List ℕ → File
whole_file b = record { bytes = b; finished = true }

-- the files with one name made to hold no bytes, which it need not have held: what is said of all names but this one
abbrev pub but_for : List ℕ → Option Held → Option Held
but_for name held = option_map (λ h. map.insert h name empty_file) held

-- a file with b added at its end, no longer finished; b alone where it wasn't held
abbrev pub appended : List ℕ → Option File → File
appended b f = record { bytes = bytes_of f ++ b; finished = false }

-- a file with the same bytes, finished; without bytes where it wasn't held
abbrev pub finished : Option File → File
finished f = record { bytes = bytes_of f; finished = true }
