-- Files in memory: a list in which each name stands once, as a finite map.
--
-- Source: this engine's own.
--
--   file_of f             the bytes of f, and whether it is finished
--   named_file f          its name with that
--   held_in fs            the files of the list by name; of the empty list the empty map
--   IsPlaceOf fs name i   the file of the name stands at place i of the list; there is none where the name isn't held
use Rattle.std.specs.Prelude.{◌≡◌, ℕ, ◌<◌, List, map, length, Some, slice_set, slice_index_or}
use Rattle.std.specs.FinMap as fin
use Rattle.cs_base.specs.outside.Outside.{File, Held}
use Rattle.cs_base.specs.declared.outside.mem_files.MemFile.{MemFile}

-- a file of the list as files are told, without its name
abbrev pub file_of : MemFile → File
file_of f = record { bytes = f.bytes.items; finished = f.finished }

-- a file of the list with its name in front
abbrev pub named_file : MemFile → List ℕ × File
named_file f = (f.name, file_of f)

-- the files of a list by name, of two with one name the first; of the empty list the empty map
abbrev pub held_in : List MemFile → Held
held_in fs = fin.from_entries (map named_file fs)

-- the place of a name in the list: its file is there, and a write there sets the name; no place where the name isn't held
pub record IsPlaceOf (fs : List MemFile) (name : List ℕ) (i : ℕ) : Type 0 where
  pub within : i < length fs
  pub found : (d : MemFile) → fin.get (held_in fs) name ≡ Some (file_of (slice_index_or fs i d))
  pub named : (d : MemFile) → (slice_index_or fs i d).name ≡ name
  pub writes : (f : MemFile) → f.name ≡ name → held_in (slice_set fs i f) ≡ fin.insert (held_in fs) name (file_of f)
