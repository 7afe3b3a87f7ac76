use Rattle.std.proofs.Common.{◌≡◌, ◌-◌}
use Rattle.std.specs.List.{list_any, range_with_len}
use Rattle.cs_model_excerpts.specs.OwnWords.{is_near_marked, is_neighbour}
use Rattle.cs_more.proofs.marks.is_near_marked.Given as goal

abbrev pub invariant-loop-i : goal.invariant-loop-i
invariant-loop-i l = is_near_marked l.kept l.place ≡ list_any (is_neighbour l.kept l.place) (range_with_len l.i (l.i-end - l.i))
