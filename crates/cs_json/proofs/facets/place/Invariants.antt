use Rattle.std.proofs.Common.{◌≡◌, take}
use Rattle.cs_json.proofs.ByName.{ComesBehind}
use Rattle.cs_json.proofs.facets.place.Given as goal

abbrev pub invariant-loop-at : goal.invariant-loop-at
invariant-loop-at l = (l.ordered ≡ l.initial.ordered) × ComesBehind l.facet.name (take l.at l.ordered.items)
