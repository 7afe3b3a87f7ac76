use Rattle.std.proofs.Common.{◌≡◌, map, filter}
use Rattle.cs_model.specs.Words.{is_filled}
use Rattle.cs_http.proofs.facets.listed.Given as goal

abbrev pub invariant-loop-piece : goal.invariant-loop-piece
invariant-loop-piece l = l.names.items ≡ filter is_filled (map (λ x. x.now) l.yielded)
