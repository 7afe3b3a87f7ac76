-- How the columns of posts lie in their block.
--
--   Column              numbers in memory that a block lends
--   IsInPlace u v       a column lies where another does, with as much memory
--   ArePlaced ds ws ps ss b      four columns have memory for equally many entries: one behind the other in the block, and none where there is no block
use Rattle.std.specs.Prelude.{◌≡◌, ℕ, ◌*◌, ◌<◌, MatchOption}
use denote.RawPtr.{◌+ₚ◌}
use Rattle.std.specs.declared.option.Option.{Option}
use Rattle.std_alloc.specs.declared.vec.Vec.{Vec}
use Rattle.std_alloc.specs.Vec.{vec_capacity, vec_ptr}
use Rattle.std_alloc.specs.declared.vec.lodged.Lodged.{Lodged}
use Rattle.cs_cols.specs.Block.{Extent}

-- numbers in memory that a block lends
abbrev pub Column : Type 0
Column = Vec ℕ Lodged

-- v lies where u does, with as much memory
abbrev pub IsInPlace : {X : Type 0} → Vec X Lodged → Vec X Lodged → Type 0
IsInPlace u v = (vec_ptr v ≡ vec_ptr u) × (vec_capacity v ≡ vec_capacity u)

-- memory for equally many entries in each of four columns: one behind the other in the block, and none where there is no block
abbrev pub ArePlaced : Column → Column → Column → Column → Option Extent → Type 0
ArePlaced ds ws ps ss b =
    ((vec_capacity ws ≡ vec_capacity ds) × (vec_capacity ps ≡ vec_capacity ds) × (vec_capacity ss ≡ vec_capacity ds))
    × MatchOption b (vec_capacity ds ≡ 0) (λ e. (0 < e.cap) × (vec_capacity ds ≡ e.cap)
    × ((vec_ptr ds ≡ e.ptr) × (vec_ptr ws ≡ e.ptr +ₚ 4 * e.cap) × (vec_ptr ps ≡ e.ptr +ₚ 8 * e.cap) × (vec_ptr ss ≡ e.ptr +ₚ 12 * e.cap)))
