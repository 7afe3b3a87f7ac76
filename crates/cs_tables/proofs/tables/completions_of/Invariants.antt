use Rattle.std.proofs.Common.{◌≡◌, map, take}
use Rattle.cs_tables.specs.TableListings.{completion}
use Rattle.cs_tables.proofs.tables.completions_of.Given as goal

abbrev pub invariant-loop-counted : goal.invariant-loop-counted
invariant-loop-counted l = l.first.items ≡ map completion (take l.counted-index l.best)
