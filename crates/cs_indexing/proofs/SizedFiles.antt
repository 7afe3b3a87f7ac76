-- A file that has a size.
--
--   held_by       it is held
--   held_size     it has so many bytes
use Rattle.std.proofs.Common.{◌≡◌, ℕ, length, arith}
use Rattle.std.specs.Prelude.{Option, Some, None}
use Rattle.cs_base.specs.outside.Outside.{File, IsHeld, bytes_of, size_of}

pub held_by : (f : Option File) (n : ℕ) → size_of f ≡ Some n → IsHeld f
held_by None n e = absurd cc
held_by (Some f) n e = omega arith

pub held_size : (f : Option File) (n : ℕ) → size_of f ≡ Some n → length (bytes_of f) ≡ n
held_size None n h = absurd cc
held_size (Some f) n h = cc
