-- What one pass over the words knows on its way to the shortest run.
--
--   seen_run r                    a run by its first and its last place
--   reach marks i                 how many words end with the last one among the first i that has a mark; 0 where none has
--   last_start parts i            before how many words a run must begin that ends with word i, counted from 1, and covers
--   shorter_run a b               the shorter run, and a where they have one length
--   chosen_run best r             that of the best run until now and this one
--   better_run best start last    that of the best run until now and the run that begins before so many words and ends there; the
--                                 best one stays where start is 0
use Rattle.std.specs.Prelude.{ℕ, zero, suc, ◌-◌, Bool, nat_le, if◌then◌else◌, List, map, min, fold, Option, Some, None}
use Rattle.cs_model_excerpts.specs.Runs.{has_mark_at}
use Rattle.cs_more.specs.declared.runs.WordRun.{WordRun}

-- a run as the definitions have it
abbrev pub seen_run : WordRun → ℕ × ℕ
seen_run r = (r.first, r.last)

-- of the first i words those up to the last one with a mark, by their number
unfoldable pub reach : List Bool → ℕ → ℕ
reach marks zero = 0
reach marks (suc i) = if has_mark_at marks i then suc i else reach marks i

-- the least that a part reaches among the first i words; of no parts i
abbrev pub last_start : List (List Bool) → ℕ → ℕ
last_start parts i = fold min i (map (λ m. reach m i) parts)

-- the shorter of two runs; of those of one length the first one
abbrev pub shorter_run : ℕ × ℕ → ℕ × ℕ → ℕ × ℕ
shorter_run a b = if nat_le (a.1 - a.0) (b.1 - b.0) then a else b

-- the run itself where there is none before it
abbrev pub chosen_run : Option (ℕ × ℕ) → ℕ × ℕ → ℕ × ℕ
chosen_run None r = r
chosen_run (Some a) r = shorter_run a r

-- no run begins before no word, and then the best one stays
abbrev pub better_run : Option (ℕ × ℕ) → ℕ → ℕ → Option (ℕ × ℕ)
better_run best zero last = best
better_run best (suc a) last = Some (chosen_run best (a, last))
