use Rattle.std.proofs.Common.{◌≡◌, length, take}
use Rattle.std.specs.Prelude.{flat_map}
use Rattle.cs_meet.proofs.union.count_rows.Given as goal

abbrev pub invariant-loop-list : goal.invariant-loop-list
invariant-loop-list l = l.rows ≡ length (flat_map (λ c. c.posts) (take l.list-index l.lists))
