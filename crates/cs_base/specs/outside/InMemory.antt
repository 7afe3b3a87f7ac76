-- What the objects in memory are seen as.
--
-- Source: this engine's own.
--
--   StoreState                the bytes, the count of reads
--   TiredState                the bytes, the counts of reads and of faults, which read is to fail
--   SinkState                 the bytes written, the count of faults, which calls are to fail
--   FilesState                the files that are held, the count of faults, which calls are to fail
--   file_code, files_code     a file as a pair and the state of files as its parts, from which they are read back
use Rattle.std.specs.Prelude.{ℕ, Bool, List, refl}
use Rattle.std.specs.Coded.{Coded, code_by, coded×, coded_list, coded_ℕ, coded_bool}
use Rattle.std.specs.FinMap as map
use Rattle.cs_base.specs.outside.Outside.{File, Held}

-- a store in memory: its bytes, and how often it was read; at first 0 times
pub record StoreState : Type 0 where
  pub bytes : List ℕ
  pub reads : ℕ

-- a store in memory that can fail: its bytes, how often it was read, how many faults it counted, and the number of the read
-- that is to fail, counted from 1 from the next one; 0 where none is
pub record TiredState : Type 0 where
  pub bytes : List ℕ
  pub reads : ℕ
  pub faults : ℕ
  pub fails_at : ℕ

-- a sink in memory: the bytes written, how many faults it counted, and the numbers of the puts that are to fail, counted from 1
-- from the next one; none of each at first
pub record SinkState : Type 0 where
  pub bytes : List ℕ
  pub faults : ℕ
  pub failing : List ℕ

-- files in memory: those that are held, how many faults they counted, and the numbers of the calls that are to fail, those that
-- read and those that write, each counted from 1 from the next one of its kind; none of each at first
pub record FilesState : Type 0 where
  pub held : Held
  pub faults : ℕ
  pub failing_reads : List ℕ
  pub failing_writes : List ℕ

-- a file as a pair, from which it is read back
abbrev pub file_code : Coded File
file_code = code_by (List ℕ × Bool) (coded× (coded_list coded_ℕ) coded_bool) (λ f. (f.bytes, f.finished)) (λ p. record { bytes = p.0; finished = p.1 }) (λ _. refl)

-- the state of files as its four parts, from which it is read back
abbrev pub files_code : Coded FilesState
files_code = code_by (Held × (ℕ × (List ℕ × List ℕ))) (coded× (map.code (coded_list coded_ℕ) file_code) (coded× coded_ℕ (coded× (coded_list coded_ℕ) (coded_list coded_ℕ)))) (λ s. (s.held, (s.faults, (s.failing_reads, s.failing_writes)))) (λ p. record { held = p.0; faults = p.1.0; failing_reads = p.1.1.0; failing_writes = p.1.1.1 }) (λ _. refl)
