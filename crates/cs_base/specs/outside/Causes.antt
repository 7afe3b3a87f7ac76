-- Counts of faults and of reads: why a call may fail, and how often it may read.
--
-- Source: this engine's own. A count is a number of u64.
--
--   one_more before             the count behind one fault more, up to the last value of u64
--   Rose before now             the count rose from before to now, or stands where it can't rise
--   Counted before now result   what each call that can fail owes its count
--   ReadsWithin n before now    a count of reads rose by at most n
use Rattle.std.specs.Prelude.{◌≡◌, ℕ, ◌+◌, ◌-◌, ◌^◌, ◌≤◌, min, Result, OnOk, OnErr}

-- the count behind one fault more: one greater, and at the last value of u64 as it was
abbrev pub one_more : ℕ → ℕ
one_more before = min (before + 1) (2 ^ 64 - 1)

-- the count is greater than it was; one that stands at its last value counts as risen
abbrev pub Rose : ℕ → ℕ → Type 0
Rose before now = one_more before ≤ now

-- the count never falls, an Ok leaves it as it was, and a failure comes only where it rose
pub record Counted {T E : Type 0} (before now : ℕ) (result : Result T E) : Type 0 where
  pub later : before ≤ now
  pub quiet : OnOk result (now ≡ before)
  pub failed : OnErr result (Rose before now)

-- a count of reads never falls, and rose by at most n; with 0 it is as it was
pub record ReadsWithin (n before now : ℕ) : Type 0 where
  pub later : before ≤ now
  pub within : now ≤ before + n
