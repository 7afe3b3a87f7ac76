-- When a bounded list stands for the best of all that was offered to it.
--
--   IsUpTo w xs                           none of xs comes behind w in the order of hits
--   IsFull room w xs                      the first `room` of xs are there, and none of them comes behind w
--   Ranked                                the best of some documents, best first, and how many are kept at most
--   first_of room xs                      the best `room` of some documents, best first
--   Takes s room kept worst now worst'    what `kept` has the best of, `now` has the best of with s besides
--   TakesAll span room kept worst now worst'    the same with all of a span besides
--   is_behind s worst                     whether s comes behind `worst`, or is it
--   HasBest seen room kept worst          kept has the first `room` of seen, and `worst`, where it is told, comes before none of these
use Rattle.std.specs.Prelude.{◌≡◌, ℕ, ◌≤◌, List, [], ◌∷◌, ◌++◌, length, take, Bool, false, not, Option, None, Some, MatchOption}
use Rattle.std.specs.List.{AllByRecursion}
use Rattle.std.specs.Ordering.{is_gt, is_lt}
use Rattle.std.specs.declared.cmp.Ordering.{Ordering}
use Rattle.cs_base.specs.content.Members.{members_in}
use Rattle.cs_base.specs.content.Orders.{by_rank}
use Rattle.cs_base.specs.declared.content.doc.Scored.{Scored}

-- documents in their order, and how many are kept at most
pub record Ranked : Type 0 where
  pub list : List Scored
  pub room : ℕ

-- the best `room` documents, each once, best first; all where there are fewer
abbrev pub first_of : ℕ → List Scored → List Scored
first_of room xs = take room (members_in by_rank xs)

-- none of xs comes behind w
abbrev pub IsUpTo : {X : Type 0} → (X → X → Ordering) → X → List X → Type 0
IsUpTo R w xs = AllByRecursion (λ x. is_gt (R x w) ≡ false) xs

-- there are `room` entries, and none of the first `room` comes behind w
pub record IsFull {X : Type 0} (R : X → X → Ordering) (room : ℕ) (w : X) (xs : List X) : Type 0 where
  pub enough : room ≤ length xs
  pub upto : IsUpTo R w (take room xs)

-- the first `room` of all that was seen are the first `room` of what is kept
pub record HasBest (seen : List Scored) (room : ℕ) (kept : List Scored) (worst : Option Scored) : Type 0 where
  pub same : take room (members_in by_rank seen) ≡ take room (members_in by_rank kept)
  pub full : MatchOption worst (Unit {0}) (λ w. IsFull by_rank room w (members_in by_rank kept))

-- where `kept` has the best of what was seen, `now` has the best of that and s
abbrev pub Takes : Scored → ℕ → List Scored → Option Scored → List Scored → Option Scored → Type 0
Takes s room kept worst now worst' = (seen : List Scored) → HasBest seen room kept worst → HasBest (seen ++ s ∷ []) room now worst'

-- where `kept` has the best of what was seen, `now` has the best of that and of a span; where that is empty the two are alike
abbrev pub TakesAll : List Scored → ℕ → List Scored → Option Scored → List Scored → Option Scored → Type 0
TakesAll span room kept worst now worst' = (seen : List Scored) → HasBest seen room kept worst → HasBest (seen ++ span) room now worst'

-- whether s isn't before the last of so many better ones; while none is known, it may be
abbrev pub is_behind : Scored → Option Scored → Bool
is_behind s None = false
is_behind s (Some w) = not (is_lt (by_rank s w))
