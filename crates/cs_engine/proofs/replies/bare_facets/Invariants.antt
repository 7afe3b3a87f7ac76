use Rattle.std.proofs.Common.{◌≡◌, ◌++◌, drop, map}
use Rattle.cs_rows.specs.Skipping.{bare_facet}
use Rattle.cs_engine.proofs.replies.bare_facets.Given as goal

abbrev pub invariant-loop-name : goal.invariant-loop-name
invariant-loop-name l = map bare_facet l.names ≡ l.shown ++ map bare_facet (drop l.name-index l.names)
