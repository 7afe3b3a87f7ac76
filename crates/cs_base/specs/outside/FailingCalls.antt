-- Lists of calls that are to fail, of the objects in memory: each call is named by its number, counted from 1 from the call
-- that comes next.
--
-- Source: this engine's own.
--
--   fails_next calls    whether the next call is to fail
--   after_call calls    the list behind one call, each number counted from the then next call
use Rattle.std.specs.Prelude.{ℕ, ◌-◌, Bool, List, map, nat_eq}
use Rattle.std.specs.List.{list_any}

-- whether the next call is to fail: 1 is on the list; of the empty list no call fails
abbrev pub fails_next : List ℕ → Bool
fails_next calls = list_any (nat_eq 1) calls

-- the list behind one call: each number is one less; 0 stays, which numbers no call that comes
abbrev pub after_call : List ℕ → List ℕ
after_call calls = map (λ k. k - 1) calls
