-- Some draws at once.
--
-- Source: F. B. Brown, "Random number generation with arbitrary strides" (1994).
--
--   jumped j x     the state behind a jump from the state x
use Rattle.std.specs.Prelude.{ℕ, ◌+◌, ◌*◌, ◌%◌, ◌^◌}
use Rattle.cs_trial.specs.declared.draws.Jump.{Jump}

-- the state behind a jump, below 2^64
abbrev pub jumped : Jump → ℕ → ℕ
jumped j x = (x * j.times + j.plus) % 2 ^ 64
